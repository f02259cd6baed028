-- A compaction leaves a zone no arena more than its cells need.
use Rattle.std.proofs.Common.{◌≡◌, ℕ, List, [], ◌∷◌, ap, ◌∙◌, length, length-append, ◌+◌, arith, is_some}
use Rattle.colour_defs.specs.World.{World}
use Rattle.colour_defs.specs.Compaction.{Compacts}
use Rattle.colour_defs.specs.Ends.{arenas_from}
use Rattle.colour_defs.proofs.ValidCompaction.{moved_kept, moved_was}
use Rattle.collection_laws.proofs.KeptArenas.{owned_after}
use Rattle.spec_laws.specs.Kept.{IsTight}

pub compact_tight : (w : World) (zone moved given : ℕ) (v : World) → Compacts w zone moved given v
    → IsTight w zone given v
compact_tight w zone moved given v c = record {
  present = λ x. (
    (λ p. moved_was c.kept c.movers w.places v.places c.are_moved (λ y m. let h = (c.movers_are y).0 m in
        ap is_some h.1) x p),
    λ p. moved_kept c.kept c.movers w.places v.places c.are_moved x p,
  );
  owned =
      let after : length (arenas_from 0 v.owner (zone ∷ [])) ≡ length c.kept + 0 =
      ap (λ (l : List ℕ). length l) (owned_after w zone moved given v c) ∙ length-append c.kept [] in
      let all : length (arenas_from 0 w.owner (zone ∷ [])) ≡ length c.kept + length c.given_up =
      ap (λ (l : List ℕ). length l) c.arenas_are ∙ length-append c.kept c.given_up in
      let is = c.given_is in
      omega (arith, after, all, is);
  fewest = λ n fits.
      let all : length (arenas_from 0 w.owner (zone ∷ [])) ≡ length c.kept + length c.given_up =
      ap (λ (l : List ℕ). length l) c.arenas_are ∙ length-append c.kept c.given_up in
      let few = c.few in
      let is = c.given_is in
      omega (arith, all, few.0, few.1, is, fits);
}
