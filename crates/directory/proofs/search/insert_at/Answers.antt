use Rattle.std.proofs.Common.{refl}
use Rattle.directory.proofs.Shift.{rotated}
use Rattle.directory.proofs.search.insert_at.Goals as goal

pub returns : goal.returns
returns g c = rotated c.args.list.now _ c.rotate_right.new.self c.args.i c.args.record c.requires refl c.rotate_right.ensures.after
