-- A zone is compacted: the judge stands for the world after it.
use Rattle.std.proofs.Common.{◌≡◌, ◌↔◌, ◌∙◌, ℕ, Contains, refl, sym, ap, subst}
use Rattle.colour_defs.specs.Compaction.{Compacts}
use Rattle.colour_defs.specs.Graph.{GraphState}
use Rattle.colour_defs.proofs.Lists.{nothing_in_none}
use Rattle.colour_defs.specs.World.{Has, World}
use Rattle.judge.specs.Compaction.{Lies, Packs}
use Rattle.judge.specs.Represents.{IsAtRest, IsAtStage, IsBlackIn, Represents}
use Rattle.judge.specs.Stages.{IsSettled, Shown, idle}
use Rattle.judge.specs.Weak.{IsWatched}
use Rattle.judge.proofs.Determined.{determined_world}
use Rattle.judge.proofs.Standing.{at_rest, idle_lies}

module _ (g : GraphState) (zone moved given m n : ℕ) (old new : Shown) (w v : World) (stands : Represents g old w)
    (idle_is : old.stage ≡ idle) (packs : Packs g zone old moved given new) (lawful : Compacts w zone m n v) where
  lies : Lies g new v
  lies = let p = packs.lawful w (idle_lies stands idle_is) in
      subst (λ z. Lies g new z) (determined_world w zone p.0 v moved given m n p.1 lawful) p.2

  -- both report equal numbers
  pub same_counts : (m ≡ moved) × (n ≡ given)
  same_counts = packs.only w v m n (idle_lies stands idle_is) lawful

  same_out : new.out ≡ old.out
  same_out = ap (λ (s : Shown). s.out) packs.new_is

  at_rest_then : IsAtRest new v
  at_rest_then = record { idle = lies.idle; none_out = same_out ∙ (at_rest stands idle_is).none_out }

  pub represents_packed : Represents g new v
  represents_packed = record {
    graph_is = lies.graph_is;
    places_are = lies.places_are;
    owners_are = lies.owners_are;
    out_are = ap (λ (z : World). z.out) lawful.world_is ∙ stands.out_are ∙ sym same_out;
    white_are = λ a out. absurd (nothing_in_none a (subst (λ os. Contains os a) at_rest_then.none_out out));
    slots_are = ap (λ (z : World). z.weak.slots) lawful.world_is ∙ stands.slots_are
        ∙ ap (λ (s : Shown). s.weak.slots) (sym packs.new_is);
    watched_are = λ x. subst (λ (s : Shown). Has v.weak.watched x ↔ IsWatched s.weak x) (sym packs.new_is)
        (subst (λ (z : World). Has z.weak.watched x ↔ IsWatched old.weak x) (sym lawful.world_is)
        (stands.watched_are x));
    black_are = λ still.
        let b = stands.black_are (subst IsSettled (sym idle_is) refl) in
        subst (λ (s : Shown). IsBlackIn s.black v) (sym packs.new_is) (record {
          within = b.within;
          names_are = λ x. subst (λ (z : World). Has z.black x ↔ Contains old.black.names x) (sym lawful.world_is)
              (b.names_are x);
        });
    stage_is = subst (λ t. IsAtStage t new v) (sym (ap (λ (s : Shown). s.stage) packs.new_is ∙ idle_is)) at_rest_then;
  }
