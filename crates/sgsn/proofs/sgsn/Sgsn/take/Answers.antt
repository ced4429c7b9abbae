use Rattle.sgsn.proofs.Senders.{its_own}
use Rattle.sgsn.proofs.sgsn.Sgsn.take.Goals as goal

pub take_page-requires-clause-its : goal.take_page-requires-clause-its
take_page-requires-clause-its g c = its_own _ c.args.i c.args.peer c.requires.sender.stands
