use Rattle.std.proofs.Common.{refl}
use Rattle.examples.proofs.examples_stand.Goals as goal

pub returns : goal.returns
returns c = record {
  count = refl;
  stand =
      (((refl, refl), refl), (((refl, refl), refl), (((refl, refl), refl), ((_, refl, refl, refl), ((_, refl, refl, refl), ((refl, (refl, (refl, tt))), ((refl, refl, (refl, (refl, tt))), ((_, (refl, refl), (_, (refl, refl), (_, (refl, refl), (_, (refl, refl), tt)))), tt))))))));
}
