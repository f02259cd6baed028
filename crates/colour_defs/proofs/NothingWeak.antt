-- Where weak slots and watches name nothing, a group's end takes nothing from them.
use Rattle.std.proofs.Common.{◌≡◌, sym, ap, subst, ◌∙◌, [], map}
use Rattle.colour_defs.specs.World.{World, WeakNames, Has, no_weak_names}
use Rattle.colour_defs.specs.WeakRefs.{LosesWeak, if_present}
use Rattle.colour_defs.proofs.Lists.{nothing_in_none}
use Rattle.colour_defs.proofs.Finite.{no_name}

pub loses_nothing : (w v : World) → w.weak ≡ no_weak_names → v.weak ≡ no_weak_names → LosesWeak w [] v
loses_nothing w v ew ev = record {
  slots_are = ap (λ (n : WeakNames). n.slots) ev ∙ sym (ap (λ (n : WeakNames). map (if_present v) n.slots) ew);
  watched_are = λ x. (
    (λ h. absurd (no_name x (subst (λ (n : WeakNames). Has n.watched x) ev h))),
    λ h. absurd (no_name x (subst (λ (n : WeakNames). Has n.watched x) ew h.0)),
  );
  told_are = record {
    ascending = tt;
    has = λ x. (
      (λ c. absurd (nothing_in_none x c)),
      λ h. absurd (no_name x (subst (λ (n : WeakNames). Has n.watched x) ew h.0)),
    );
  };
}
