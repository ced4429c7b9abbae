use Rattle.std.proofs.Common.{List, ℕ, ◌++◌, ⊎_elim, arith}
use Rattle.messages.specs.declared.put.Writer.{Writer}
use Rattle.messages.specs.Writing.{Puts}
use Rattle.messages.proofs.Buffers.{puts_more, puts_few}
use Rattle.messages.proofs.writing.put_elements.Goals as goal

-- an IMSI and an element of one octet
imsi_and : {xs ys : List ℕ} {a b c : Writer} → Puts 10 xs a b → Puts 3 ys b c → Puts 30 (xs ++ ys) a c
imsi_and p q = puts_few 30 (puts_more p q) (omega arith)

pub returns-in-Paging : goal.returns-in-Paging
returns-in-Paging c =
    rw c.in-Paging.is
    (puts_few 30 (puts_more c.imsi.ensures (puts_more c.tmsi.ensures c.channel.ensures)) (omega arith))

pub returns-in-PagingFailure : goal.returns-in-PagingFailure
returns-in-PagingFailure c =
    let both = imsi_and c.imsi-in-PagingFailure.ensures c.code-in-PagingFailure.ensures in
    ⊎_elim (λ e. rw e both) (λ e. rw e both) c.in-PagingFailure.is

pub returns-in-LuRequest : goal.returns-in-LuRequest
returns-in-LuRequest c =
    rw c.in-LuRequest.is
    (puts_more c.imsi-in-LuRequest.ensures (puts_more c.code.ensures (puts_more c.area.ensures (puts_more c.area-in-LuRequest.ensures c.code-in-LuRequest.ensures))))

pub returns-in-LuAccept : goal.returns-in-LuAccept
returns-in-LuAccept c = rw c.in-LuAccept.is (puts_few 30 (puts_more c.imsi-in-LuAccept.ensures c.area-in-LuAccept.ensures) (omega arith))

pub returns-in-LuReject : goal.returns-in-LuReject
returns-in-LuReject c = rw c.in-LuReject.is (imsi_and c.imsi-in-LuReject.ensures c.code-in-LuReject.ensures)

pub returns-in-GprsDetachIndication : goal.returns-in-GprsDetachIndication
returns-in-GprsDetachIndication c =
    let both = imsi_and c.imsi-in-GprsDetachIndication.ensures c.code-in-GprsDetachIndication.ensures in
    ⊎_elim (λ e. rw e both) (λ e. rw e both) c.in-GprsDetachIndication.is

pub returns-in-ImsiDetachIndication : goal.returns-in-ImsiDetachIndication
returns-in-ImsiDetachIndication c =
    let both = imsi_and c.imsi-in-ImsiDetachIndication.ensures c.code-in-ImsiDetachIndication.ensures in
    ⊎_elim (λ e. rw e both) (λ e. rw e both) c.in-ImsiDetachIndication.is
