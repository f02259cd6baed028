-- The unit that begins the marking of a collection.
use Rattle.std.proofs.Common.{◌≡◌, inr, ℕ, List, [], ◌∷◌, ap}
use Rattle.gz_names.specs.declared.replies.Report.TheVariants.{Started}
use Rattle.colour_defs.specs.World.{World, Collection}
use Rattle.colour_defs.specs.Lawful.{Begins, IsOver, IsLawfulUnit, says}

pub begins_unit : (zones : List ℕ) (p u : World) → Begins p zones u → IsLawfulUnit p (Started ∷ []) u
begins_unit zones p u b =
    says (inr (b.preparation, b.was)) (λ q. cc q) (zones, b)
    (λ o. cc (b.groups_are, ap (λ (k : Collection). k.groups) (same o), o.ended))
  where
    same : (o : IsOver u) → b.collection ≡ o.collection
    same o = cc (ap (λ (w : World). w.collection) b.world_is, o.running)
