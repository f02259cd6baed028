-- What is noted in sets of zones.
use Rattle.std.proofs.Common.{ℕ, zero, suc, replicate}
use Rattle.gz_names.specs.Zones.{HasZone}
use Rattle.gz_names.specs.declared.zone_sets.ZoneSet.{ZoneSet}
use Rattle.wrappers.specs.TargetZones.{IsNoted}

-- in empty sets nothing is noted
pub noted-nowhere : (s : ZoneSet) → ((z : ℕ) → HasZone s.bits z → ⊥) → (n a b : ℕ) → IsNoted (replicate n s) a b → ⊥
noted-nowhere s none zero a b is = is
noted-nowhere s none (suc n) zero b is = none b is
noted-nowhere s none (suc n) (suc a) b is = noted-nowhere s none n a b is
