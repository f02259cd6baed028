-- Answers to `compact`, by what the collector's call did and what was written.
use Rattle.std.proofs.Common.{◌≡◌, ◌<◌, ◌≤◌, ℕ, List, [], ◌∷◌, Option, Some, None, Err, IsSome, inl, inr}
use Rattle.std.proofs.Common.{refl, sym, ap, subst, ◌∙◌, length, arith}
use Rattle.std.specs.Io.KnownBytes.{Appends}
use Rattle.std.proofs.lemmas.Bool.{cases_lt}
use Rattle.gz_io.specs.Causes.{AppendsFront}
use Rattle.gz_names.specs.declared.commands.Cmd.TheVariants as command
use Rattle.gz_names.specs.declared.replies.Refusal.TheVariants as refusal
use Rattle.gz_names.specs.declared.replies.Reply.TheVariants as reply
use Rattle.cell_bits.specs.declared.bits.Bits.{Bits}
use Rattle.colour_defs.specs.Compaction.{Compacts}
use Rattle.colour_defs.specs.Lawful.{RefusesToBegin}
use Rattle.colour_defs.specs.World.{IsIdle, World}
use Rattle.colour_defs.proofs.Lists.{contains_cases, contains_head, nothing_in_none}
use Rattle.compact.specs.declared.Compacted.{Compacted}
use Rattle.slice_driver.specs.Collector.{CollectorState}
use Rattle.slice_driver.specs.Compacting.{CompactDone, CompactsIn}
use Rattle.slice_driver.specs.Represents.{Represents}
use Rattle.slice_driver.specs.declared.compacting.CompactFault.TheVariants as fault
use Rattle.slice_driver.proofs.abstraction.Phases.{placed_in}
use Rattle.trace_lang.specs.Texts.{line_of, reply_text}
use Rattle.trace_cli.specs.Headline.{IsAccepted, WritesAnswer, WritesFront, WritesStart, answer_lines}
use Rattle.trace_cli.specs.Worlds.{EachWorld, EachWorldWithin}
use Rattle.trace_cli.proofs.Flights.{idle_world, not_both, running_world}
use Rattle.trace_cli.proofs.UnitBound.{idle_within}

-- the world after it is idle, too
still_idle : (w : World) (zone moved given : ℕ) (v : World) → Compacts w zone moved given v → IsIdle v
still_idle w zone moved given v is = record {
  none_running = ap (λ (u : World). u.collection) is.world_is ∙ is.idle.none_running;
  none_preparing = ap (λ (u : World). u.preparing) is.world_is ∙ is.idle.none_preparing;
}

module _ (c : CollectorState) (zone : ℕ) (done : Compacted) (d : CollectorState) (f : ℕ → Option Bits)
    (does : CompactsIn c zone done d) (p q : Option (List ℕ)) where
  pub compact_writes : Appends p q (line_of (reply_text (reply.Compacted done.moved done.given_up)))
      → EachWorldWithin c f (λ w. WritesAnswer w (command.Compact zone) d f p q)
  compact_writes written w ok stands within =
      let b = does f w ok stands in
      record {
        reports = [];
        answer = reply.Compacted done.moved done.given_up;
        after = b.0;
        represents = b.3;
        within = idle_within d f b.0 (still_idle w zone done.moved done.given_up b.0 b.1);
        answers = inl (done.moved, done.given_up, refl, refl, b.1);
        written = written;
      }

  pub compact_breaks : AppendsFront p q (line_of (reply_text (reply.Compacted done.moved done.given_up)))
      → EachWorld c f (λ w. WritesFront w (command.Compact zone) p q)
  compact_breaks written w ok stands =
      let b = does f w ok stands in
      record {
        text = answer_lines ([], reply.Compacted done.moved done.given_up);
        answers = inl (
          [],
          reply.Compacted done.moved done.given_up,
          b.0,
          inl (done.moved, done.given_up, refl, refl, b.1),
          refl,
        );
        written = written;
      }

-- as many zones are made in each world that the collector stands for
zones_alike : (c : CollectorState) (f : ℕ → Option Bits) (w : World) → Represents c f w
    → length c.heap.shape.states ≡ w.graph.zones
zones_alike c f w stands =
    let lies = (placed_in c f w stands).lies in sym (sym lies.part.part.zones ∙ lies.shown.zones_are)

-- why it is refused, in each world
pub compact_while_running : (c : CollectorState) (f : ℕ → Option Bits) (w : World) (zone : ℕ) → Represents c f w
    → IsSome c.run → RefusesToBegin w (zone ∷ []) [] (reply.Refused refusal.Running) w
compact_while_running c f w zone stands runs =
    inl (refl, running_world c f w stands runs, record { silent = refl; same = refl })

pub compact_no_zone : (c : CollectorState) (f : ℕ → Option Bits) (w : World) (zone : ℕ) → Represents c f w
    → (c.run ≡ None) × (length c.heap.shape.states ≤ zone)
    → RefusesToBegin w (zone ∷ []) [] (reply.Refused refusal.NoZone) w
compact_no_zone c f w zone stands none = inr (
  refl,
  idle_world c f w stands none.0,
  λ made. (let lt = made zone (contains_head zone []) in
      let far = none.1 in
      let same = zones_alike c f w stands in
      omega (arith, lt, far, same)),
  record { silent = refl; same = refl },
)

-- it takes memory only where it is not refused
compact_accepted : (w : World) (zone : ℕ) → IsIdle w → zone < w.graph.zones → IsAccepted w (command.Compact zone)
compact_accepted w zone idle made reports why v (inl h) = let is = h.2 in cc is
compact_accepted w zone idle made reports why v (inr (inl h)) = not_both w idle h.1
compact_accepted w zone idle made reports why v (inr (inr h)) = h.2 (λ z c. elim (contains_cases zone [] z c) [
  | inl same ↦ subst (λ (y : ℕ). y < w.graph.zones) same made
  | inr none ↦ absurd (nothing_in_none z none)
])

idle_if : {X : Type 0} (o : Option X) → (IsSome o → ⊥) → o ≡ None
idle_if None none = refl
idle_if (Some x) none = absurd (none refl)

pub compact_stops : (c : CollectorState) (f : ℕ → Option Bits) (zone : ℕ) (d : CollectorState)
    (p q : Option (List ℕ)) → CompactDone c zone (Err fault.NoMemory) d → Appends p q []
    → EachWorld c f (λ w. WritesStart w (command.Compact zone) p q)
compact_stops c f zone d p q done written w ok stands =
    let idle : c.run ≡ None = idle_if c.run (λ some. (let e = done.running.1 some in cc e)) in
    let made : zone < length c.heap.shape.states = elim (cases_lt zone (length c.heap.shape.states)) [
      | inl lt ↦ lt
      | inr far ↦ absurd (let e = done.no_zone.1 (idle, far) in cc e)
    ] in
    record {
      accepted = compact_accepted w zone (idle_world c f w stands idle)
          (subst (λ (n : ℕ). zone < n) (zones_alike c f w stands) made);
      reports = [];
      starts = refl;
      written = written;
    }
