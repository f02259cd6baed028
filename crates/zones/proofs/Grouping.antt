-- The sets of zones by state, where no zone is made.
use Rattle.std.proofs.Common.{◌≡◌, List, [], ◌∷◌, refl}
use Rattle.gz_names.specs.declared.zone_sets.ZoneSet.{ZoneSet}
use Rattle.gz_names.proofs.Words.{HasZone-none}
use Rattle.zones.specs.ZonesMade.{word_of, AreGrouped}
use Rattle.zones.specs.declared.states.State.{State}
use Rattle.zones.specs.declared.states.State.TheVariants.{NoGC, Prepare, MarkBlackOnly, MarkBlackAndGray, Sweep}
use Rattle.zones.specs.declared.states.State.TheVariants.{Finished}

abbrev no_zones : List ZoneSet
no_zones =
    record { bits = 0 } ∷ record { bits = 0 } ∷ record { bits = 0 } ∷ record { bits = 0 } ∷ record { bits = 0 }
    ∷ record { bits = 0 } ∷ []

word_of-no_zones : (s : State) → word_of no_zones s ≡ 0
word_of-no_zones NoGC = refl
word_of-no_zones Prepare = refl
word_of-no_zones MarkBlackOnly = refl
word_of-no_zones MarkBlackAndGray = refl
word_of-no_zones Sweep = refl
word_of-no_zones Finished = refl

-- with no zone made, each set is empty
pub AreGrouped-none : AreGrouped []
    (record { bits = 0 } ∷ record { bits = 0 } ∷ record { bits = 0 } ∷ record { bits = 0 } ∷ record { bits = 0 }
    ∷ record { bits = 0 } ∷ [])
AreGrouped-none z s = (λ h. absurd (HasZone-none z (rw word_of-no_zones at h)), λ e. absurd (cc))
