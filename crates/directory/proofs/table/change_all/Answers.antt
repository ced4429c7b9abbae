use Rattle.std.proofs.Common.{get_or, set, ap, ◌∙◌, arith}
use Rattle.std.proofs.lemmas.List.{take_all, drop_all, append-nil}
use Rattle.std.proofs.lemmas.List.Edits.{map_over_more}
use Rattle.directory.proofs.table.change_all.Goals as goal

pub loop-record-preserved : goal.loop-record-preserved
loop-record-preserved g c =
    let f = g.F.Change.to c.args.change.now in
    let list = c.loop-record.list in
    let i = c.loop-record.record-index in
    let item = c.record-item.result in
    ap (set list i) c.change.ensures
    ∙ map_over_more f c.args.list.now list i (get_or list i item) (omega arith) c.loop-record.invariant (ap (get_or list i) c.record-item.is)

pub returns : goal.returns
returns g c =
    let i = c.loop-record.record-index in
    let t = take_all i c.args.list.now (omega arith) in
    let d = drop_all i c.args.list.now (omega arith) in
    c.loop-record.invariant ∙ simp (t, d, append-nil)
