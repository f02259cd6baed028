use Rattle.std.proofs.Common.{refl}
use Rattle.judge.proofs.former.Former.keep.Goals as goal

pub returns : goal.returns
returns c = record {
  former = λ g is. record { leads = is.leads; taken = λ e. absurd (cc e) };
  kept_is = refl;
  graph_is = refl;
}
