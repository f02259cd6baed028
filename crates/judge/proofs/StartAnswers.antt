-- A command is read: its answer has begun lawfully.
use Rattle.std.proofs.Common.{◌≡◌, ◌≢◌, ◌∙◌, ℕ, ◌<◌, ◌^◌, inl, inr, true, false, List, [], ◌∷◌, Option}
use Rattle.std.proofs.Common.{◌+◌, arith, Some, None, Contains, ap, refl, slice_index_or, subst, sym}
use Rattle.std.specs.FinSet as set
use Rattle.gz_names.specs.Zones.{zones_in}
use Rattle.gz_names.specs.declared.names.Name.{Name}
use Rattle.gz_names.specs.declared.zone_sets.ZoneSet.{ZoneSet}
use Rattle.gz_names.specs.declared.commands.Cmd.{Cmd}
use Rattle.gz_names.specs.declared.commands.Cmd.TheVariants as command
use Rattle.gz_names.specs.declared.commands.GraphCmd.{GraphCmd}
use Rattle.gz_names.specs.declared.commands.WeakCmd.{WeakCmd}
use Rattle.gz_names.specs.declared.commands.WeakCmd.TheVariants as weak_command
use Rattle.gz_names.specs.declared.replies.Refusal.{Refusal}
use Rattle.gz_names.specs.declared.replies.Refusal.TheVariants as refusal
use Rattle.gz_names.specs.declared.replies.Reply.{Reply}
use Rattle.gz_names.specs.declared.replies.Reply.TheVariants as answer
use Rattle.colour_defs.specs.Graph.{GraphState, register_cell}
use Rattle.colour_defs.specs.Lawful.{Answers, ChangesNothing, HasTally, RefusesIdle, RefusesToBegin}
use Rattle.colour_defs.specs.Step.{named_or_null, step_of, with_register}
use Rattle.colour_defs.specs.Units.{Tally}
use Rattle.colour_defs.specs.WeakRefs as defs
use Rattle.colour_defs.specs.WeakRefs.{WeakInWorld, unwatch_cell, watch_cell, weak_cell}
use Rattle.colour_defs.specs.World.{Has, IsPresent, World, first_preparation}
use Rattle.colour_defs.specs.World.{first_tally}
use Rattle.colour_defs.proofs.Lists.{choose, contains_head}
use Rattle.colour_defs.proofs.ZoneSets.{zones_in-has}
use Rattle.trace_lang.specs.Grammar.{Spells}
use Rattle.trace_lang.specs.Texts.{reply_text}
use Rattle.judge.specs.Cells.{HasCell}
use Rattle.judge.specs.Positions.{HasCounted, StandsBetween}
use Rattle.judge.specs.Represents.{IsAtStage, LiesInPlace, Represents}
use Rattle.judge.specs.Replies.{AreMade, Asks, AsksCompact, AsksUnwatch, AsksWatch, AsksWeak, Begins, Due, Dumps}
use Rattle.judge.specs.Replies.{GoesOn}
use Rattle.judge.specs.Replies.{IsRefusal, ListsGray, begun_due, graph_after, resets, units}
use Rattle.judge.specs.Sound.{IsSound}
use Rattle.judge.specs.Stages as judged
use Rattle.judge.specs.Stages.{Changes, IsSettled, Obeys, Shown, Stage, TakesNamed, collecting, idle, is_prepared}
use Rattle.judge.specs.Stages.{preparing}
use Rattle.judge.specs.Transcripts.{told_lines}
use Rattle.judge.specs.Weak.{weak_slot}
use Rattle.judge.specs.declared.former.Change.{Change}
use Rattle.judge.proofs.Answering.{commanded, derefed}
use Rattle.judge.proofs.IdleWorlds.{compacted, preparing_begun}
use Rattle.judge.proofs.LastWorlds.{closing}
use Rattle.judge.proofs.Idling.{idle_world, over_world, running_world}
use Rattle.judge.proofs.PlainReplies.{IsPlain, named_plain, plain_step}
use Rattle.judge.proofs.Progress.{IsDueNow, Progress, collect, finish, slice}
use Rattle.judge.proofs.ResetLines.{HasSweptSoFar}
use Rattle.judge.proofs.Settling.{settled_stage, settled_world}
use Rattle.judge.proofs.Sizes.{HasSizes, command_sizes, take_sizes}
use Rattle.judge.proofs.SpelledZones.{spelled_zones}
use Rattle.judge.proofs.Standing.{present_is, settled_rests}
use Rattle.judge.proofs.UnitLines.{HasUnitsSoFar, between}
use Rattle.judge.proofs.Reweak.{represents_unwatch, represents_watch, represents_weaken}
use Rattle.judge.proofs.WorldSweeps.{lists_same}

-- what a change says of where cells lie
abbrev pub PlacesCells : Type 0
PlacesCells = (k : Change) (h : GraphState) (x also : Option Name) (old new : Shown) → Changes k h x also old new
    → LiesInPlace h x old new

-- the stage stays
pub still_open : (s t : Shown) → t.stage ≡ s.stage → t.out ≡ s.out → (judged.IsOver s → ⊥) → judged.IsOver t → ⊥
still_open s t stage out none o = none (record {
  zones = o.zones;
  marking = o.marking;
  ended = sym stage ∙ o.ended;
  none_out = sym out ∙ o.none_out;
})

-- what commands on weak slots and watched cells leave as it is
abbrev pub KeepsStage : Shown → Shown → Type 0
KeepsStage s t = (t.stage ≡ s.stage) × (t.out ≡ s.out) × (t.told ≡ s.told)

keeps_of : (s t u : Shown) → t ≡ u → KeepsStage s u → KeepsStage s t
keeps_of s t u same = subst (KeepsStage s) (sym same)

watch_keeps : (s t : Shown) (x : Option Name) (due : Due) → AsksWatch x s due t → KeepsStage s t
watch_keeps s t None due asks = keeps_of s t s asks.1 (refl, refl, refl)
watch_keeps s t (Some x) due asks = keeps_of s t (record s { weak = t.weak }) asks.1 (refl, refl, refl)

unwatch_keeps : (s t : Shown) (x : Option Name) (due : Due) → AsksUnwatch x s due t → KeepsStage s t
unwatch_keeps s t None due asks = keeps_of s t s asks.1 (refl, refl, refl)
unwatch_keeps s t (Some x) due (inl h) = keeps_of s t s h.2 (refl, refl, refl)
unwatch_keeps s t (Some x) due (inr h) = keeps_of s t (record s { weak = t.weak }) h.2 (refl, refl, refl)

watch_plain : (w : World) (x : Option Name) → IsPlain (watch_cell w x).1
watch_plain w None = record { line = refl; small = tt }
watch_plain w (Some x) = record { line = refl; small = tt }

unwatch_plain : (w : World) (x : Option Name) → IsPlain (unwatch_cell w x).1
unwatch_plain w None = record { line = refl; small = tt }
unwatch_plain w (Some x) = choose (λ (p : World × Reply). IsPlain p.1) (set.contains w.weak.watched x) _ _
    (λ _. record { line = refl; small = tt }) (λ _. record { line = refl; small = tt })

refused_plain : (why : Refusal) → IsPlain (answer.Refused why)
refused_plain why = record { line = refl; small = tt }

module _ (s t : Shown) (w : World) (b : StandsBetween w.graph s w) where
  never_over : judged.IsOver s → ⊥
  never_over o = b.not_over (over_world b.stands.represents o)

  -- an answer of one line, after which the world is this one
  one_line : (c : Cmd) (r : Reply) (h : GraphState) (v : World) → Answers w c [] r v → IsPlain r → Represents h t v
      → IsSound h t → t.stage ≡ s.stage → t.out ≡ s.out → t.told ≡ s.told → HasSizes w.graph h
      → IsDueNow w c h t (reply_text r ∷ []) []
  one_line c r h v lawful plain rep sound stage out told sizes = record {
    reports = [];
    answer = r;
    after = v;
    lawful = lawful;
    small = plain.small;
    stands = closing h t w v c [] r b.stands.laws lawful rep sound (told ∙ b.none_told)
        (still_open s t stage out never_over) (sizes.registers ∙ b.stands.laws.registers)
        (sizes.slots ∙ b.stands.laws.slots);
    lines = plain.line;
  }

  same_sizes : HasSizes w.graph w.graph
  same_sizes = record { registers = refl; slots = refl }

  -- the world stays
  no_change : (c : Cmd) (r : Reply) → Answers w c [] r w → IsPlain r → t ≡ s → IsSound w.graph t
      → IsDueNow w c w.graph t (reply_text r ∷ []) []
  no_change c r lawful plain same sound =
      one_line c r w.graph w lawful plain (subst (λ u. Represents w.graph u w) (sym same) b.stands.represents) sound
      (ap (λ (u : Shown). u.stage) same) (ap (λ (u : Shown). u.out) same) (ap (λ (u : Shown). u.told) same) same_sizes

  quietly : ChangesNothing w [] w
  quietly = record { silent = refl; same = refl }

  -- a collection or a compaction is refused
  to_begin : (zones : List ℕ) (Made : Type 0) → (((z : ℕ) → Contains zones z → z < w.graph.zones) → Made)
      → (why : Refusal) → IsRefusal Made s.stage why → RefusesToBegin w zones [] (answer.Refused why) w
  to_begin zones Made made why (inl h) =
      inl (ap answer.Refused h.0, running_world b.stands.represents h.1, quietly)
  to_begin zones Made made why (inr h) =
      inr (ap answer.Refused h.0, idle_world b.stands.represents h.1, (λ m. h.2 (made m)), quietly)

  idle_refusal : s.stage ≡ idle → RefusesIdle w [] (answer.Refused refusal.Idle) w
  idle_refusal e = (refl, idle_world b.stands.represents e, quietly)

module _ (s t : Shown) (w : World) (b : StandsBetween w.graph s w) where
  -- units begin in a world
  tally_at : (u : Stage) → s.stage ≡ u → u ≢ idle → IsAtStage u s w → (tally : Tally) × HasTally w tally
      × HasCounted s w tally []
  tally_at idle e some at = absurd (some refl)
  tally_at (preparing zones) e some at = (
    first_tally w at.preparation,
    inr (at.preparation, at.preparing_is, refl),
    record {
      prepared = λ p. (refl, inr (at.preparation, at.preparing_is, refl));
      begun = λ n. absurd (cc (n, ap is_prepared e));
    },
  )
  tally_at (collecting zones marking groups) e some at = (
    at.collection.tally,
    inl (at.collection, at.collection_is, refl),
    record {
      prepared = λ p. absurd (cc (p, ap is_prepared e));
      begun = λ n. let none : at.collection.tally.sweeps ≡ at.collection.tally.sweeps + 0 = omega arith in
          sym at.tally_is ∙ ap (λ m. record at.collection.tally { sweeps = m }) none;
    },
  )

  no_units : s.stage ≢ idle → HasUnitsSoFar w w.graph s 0 []
  no_units some = let t = tally_at s.stage refl some b.stands.represents.stage_is in record {
    units = [];
    tail = [];
    now = w;
    state = between refl b.not_over;
    stands = b.stands;
    lines = ap told_lines b.none_told;
    count = omega arith;
    tally = t.0;
    has_tally = t.1;
    counted = t.2;
  }

module _ (s t : Shown) (w : World) (b : StandsBetween w.graph s w) where
  -- a command on the graph
  graph_starts : PlacesCells → (c : GraphCmd) → Obeys w.graph c s t → IsSound (step_of w.graph c).0 t
      → IsDueNow w (command.Graph c) (step_of w.graph c).0 t (reply_text (step_of w.graph c).1 ∷ []) []
  graph_starts places c obeys sound =
      let lies = places _ _ _ _ s t obeys.changes in
      let made = commanded c s t w b.stands obeys lies in
      (one_line s t w b) (command.Graph c) (step_of w.graph c).1 (step_of w.graph c).0 made.0 (refl, made.1)
      (plain_step w.graph c) made.2 sound obeys.changes.stage_is obeys.changes.out_is obeys.changes.told_is
      (command_sizes w.graph c)

  -- weak slots and watched cells
  weak_line : (c : WeakCmd) (r : Reply) (v : World) → WeakInWorld w c r v → IsPlain r → KeepsStage s t
      → Represents w.graph t v → IsSound w.graph t → IsDueNow w (command.Weak c) w.graph t (reply_text r ∷ []) []
  weak_line c r v lawful plain keeps rep sound =
      one_line s t w b (command.Weak c) r w.graph v (refl, lawful) plain rep sound keeps.0 keeps.1 keeps.2
      (same_sizes s t w b)

  deref_starts : PlacesCells → (r q : ℕ) → TakesNamed w.graph r (weak_cell w q) s t
      → IsSound (with_register w.graph r (weak_cell w q)) t
      → IsDueNow w (command.Weak (weak_command.Deref r q)) (with_register w.graph r (weak_cell w q)) t
      (reply_text (named_or_null (weak_cell w q)) ∷ []) []
  deref_starts places r q taken sound =
      let lies = places _ _ _ _ s t taken.changes in
      let made = derefed r q s t w b.stands taken lies in
      (one_line s t w b) (command.Weak (weak_command.Deref r q)) (named_or_null (weak_cell w q))
      (with_register w.graph r (weak_cell w q)) made.0 (refl, made.1) (named_plain (weak_cell w q)) made.2 sound
      taken.changes.stage_is taken.changes.out_is taken.changes.told_is (take_sizes w.graph r (weak_cell w q))

  watch_starts : (r : ℕ) (due : Due) → AsksWatch (register_cell w.graph r) s due t → IsSound w.graph t
      → Progress w (command.Weak (weak_command.Watch r)) w.graph t due []
  watch_starts r due asks sound =
      let x = register_cell w.graph r in
      let is = represents_watch x due s t w (watch_cell w x).0 b.stands.represents asks refl in
      subst (λ d. Progress w (command.Weak (weak_command.Watch r)) w.graph t d []) (sym is.1)
      (weak_line (weak_command.Watch r) (watch_cell w x).1 (watch_cell w x).0 (refl, refl) (watch_plain w x)
      (watch_keeps s t x due asks) is.0 sound)

  unwatch_starts : (r : ℕ) (due : Due) → AsksUnwatch (register_cell w.graph r) s due t → IsSound w.graph t
      → Progress w (command.Weak (weak_command.Unwatch r)) w.graph t due []
  unwatch_starts r due asks sound =
      let x = register_cell w.graph r in
      let is = represents_unwatch x due s t w (unwatch_cell w x).0 b.stands.represents asks refl in
      subst (λ d. Progress w (command.Weak (weak_command.Unwatch r)) w.graph t d []) (sym is.1)
      (weak_line (weak_command.Unwatch r) (unwatch_cell w x).1 (unwatch_cell w x).0 (refl, refl) (unwatch_plain w x)
      (unwatch_keeps s t x due asks) is.0 sound)

  named_same : (q : ℕ) → weak_cell w q ≡ weak_slot s.weak q
  named_same q = ap (λ xs. slice_index_or xs q None) b.stands.represents.slots_are

  weak_starts : PlacesCells → (c : WeakCmd) (due : Due) → AsksWeak w.graph s c due t
      → IsSound (graph_after w.graph s (command.Weak c)) t
      → Progress w (command.Weak c) (graph_after w.graph s (command.Weak c)) t due []
  weak_starts places (weak_command.Weaken q r) due asks sound =
      subst (λ d. Progress w (command.Weak (weak_command.Weaken q r)) w.graph t d []) (sym asks.0)
      (weak_line (weak_command.Weaken q r) answer.Accepted (defs.with_weak_slot w q (register_cell w.graph r))
      (refl, refl) (record { line = refl; small = tt }) (
        ap (λ (u : Shown). u.stage) asks.1,
        ap (λ (u : Shown). u.out) asks.1,
        ap (λ (u : Shown). u.told) asks.1,
      )
      (represents_weaken q r answer.Accepted due s t w (defs.with_weak_slot w q (register_cell w.graph r))
      b.stands.represents asks (refl, refl)) sound)
  weak_starts places (weak_command.Deref r q) due asks sound =
      subst (λ d.
      Progress w (command.Weak (weak_command.Deref r q)) (with_register w.graph r (weak_slot s.weak q)) t d [])
      (sym asks.0)
      (subst (λ x. IsDueNow w (command.Weak (weak_command.Deref r q)) (with_register w.graph r x) t
      (reply_text (named_or_null x) ∷ []) []) (named_same q)
      (deref_starts places r q (subst (λ x. TakesNamed w.graph r x s t) (sym (named_same q)) asks.1)
      (subst (λ x. IsSound (with_register w.graph r x) t) (sym (named_same q)) sound)))
  weak_starts places (weak_command.Watch r) due asks sound = watch_starts r due asks sound
  weak_starts places (weak_command.Unwatch r) due asks sound =
      unwatch_starts r due asks sound

module _ (s t : Shown) (w : World) (b : StandsBetween w.graph s w) where
  -- colours and dumps
  colours_start : (due : Due) → ListsGray s due → t ≡ s → IsSound w.graph t
      → Progress w command.Colours w.graph t due []
  colours_start due (inl (still, names, lists, is)) same sound =
      let black = b.stands.represents.black_are still in
      subst (λ d. Progress w command.Colours w.graph t d []) (sym is)
      (no_change s t w b command.Colours (answer.Gray names)
      (inl (
        names,
        refl,
        settled_world b.stands.represents b.stands.laws.valid still,
        lists_same (λ x. HasCell s.cells x × (Contains s.black.names x → ⊥))
            (λ x. IsPresent w x × (Has w.black x → ⊥)) names
            (λ x h. ((present_is b.stands.represents x).1 h.0, λ k. h.1 ((black.names_are x).0 k)))
            (λ x h. ((present_is b.stands.represents x).0 h.0, λ k. h.1 ((black.names_are x).1 k))) lists,
        (quietly s t w b),
      ))
      (record { line = refl; small = tt }) same sound)
  colours_start due (inr (moves, is)) same sound =
      subst (λ d. Progress w command.Colours w.graph t d []) (sym is)
      (no_change s t w b command.Colours (answer.Refused refusal.Marking)
      (inr (refl, (λ k. moves (settled_stage b.stands.represents b.stands.laws.valid k)), (quietly s t w b)))
      (refused_plain refusal.Marking) same sound)

  dump_starts : (due : Due) → Dumps w.graph s due → t ≡ s → IsSound w.graph t → Progress w command.Dump w.graph t due []
  dump_starts due (inl (still, lines, lists, is)) same sound =
      let lawful : Answers w command.Dump [] (answer.Dump lines) w =
      inl (
        lines,
        refl,
        settled_world b.stands.represents b.stands.laws.valid still,
        lists w (settled_rests b.stands.represents still),
        (quietly s t w b),
      ) in
      subst (λ d. Progress w command.Dump w.graph t d []) (sym is) (record {
        reports = [];
        answer = answer.Dump lines;
        after = w;
        lawful = lawful;
        small = tt;
        stands = closing w.graph t w w command.Dump [] (answer.Dump lines) b.stands.laws lawful
            (subst (λ u. Represents w.graph u w) (sym same) b.stands.represents) sound
            (ap (λ (u : Shown). u.told) same ∙ b.none_told)
            (still_open s t (ap (λ (u : Shown). u.stage) same) (ap (λ (u : Shown). u.out) same) (never_over s t w b))
            b.stands.laws.registers b.stands.laws.slots;
        lines = refl;
      })
  dump_starts due (inr (moves, is)) same sound =
      subst (λ d. Progress w command.Dump w.graph t d []) (sym is)
      (no_change s t w b command.Dump (answer.Refused refusal.Marking)
      (inr (refl, (λ k. moves (settled_stage b.stands.represents b.stands.laws.valid k)), (quietly s t w b)))
      (refused_plain refusal.Marking) same sound)

module _ (s t : Shown) (w : World) (b : StandsBetween w.graph s w) where
  -- a collection begins
  zones_made : (zones : ZoneSet) → ((z : ℕ) → Contains (zones_in zones) z → z < w.graph.zones) → AreMade w.graph zones
  zones_made zones h z has = h z ((zones_in-has zones z).1 has)

  gc_starts : (zones : ZoneSet) → (0 < zones.bits) × (zones.bits < 2 ^ 64) → (due : Due)
      → Begins w.graph zones (begun_due false) s due t → IsSound w.graph t
      → Progress w (command.Gc zones) w.graph t due []
  gc_starts zones size due (inl (why, refuses, is, same)) sound =
      subst (λ d. Progress w (command.Gc zones) w.graph t d []) (sym is)
      (no_change s t w b (command.Gc zones) (answer.Refused why)
      (inr (to_begin s t w b (zones_in zones) (AreMade w.graph zones) (zones_made zones) why refuses))
      (refused_plain why) same sound)
  gc_starts zones size due (inr (idle_is, made, is, leaves, new_is)) sound =
      let begun = preparing_begun w.graph zones s t w b.stands.represents b.stands.laws.valid size.0 size.1 idle_is made
      leaves new_is in
      let lawful : Answers w (command.Gc zones) [] answer.GcBegun begun.0 = inl (refl, refl, begun.1) in
      subst (λ d. Progress w (command.Gc zones) w.graph t d []) (sym is) (record {
        reports = [];
        answer = answer.GcBegun;
        after = begun.0;
        lawful = lawful;
        small = tt;
        stands = closing w.graph t w begun.0 (command.Gc zones) [] answer.GcBegun b.stands.laws lawful begun.2 sound
            (ap (λ (u : Shown). u.told) new_is ∙ b.none_told) (λ o. cc (o.ended, ap (λ (u : Shown). u.stage) new_is))
            b.stands.laws.registers b.stands.laws.slots;
        lines = refl;
      })

  collect_starts : (zones : ZoneSet) → (0 < zones.bits) × (zones.bits < 2 ^ 64) → (due : Due)
      → Begins w.graph zones (begun_due true) s due t → IsSound w.graph t
      → Progress w (command.Collect zones) w.graph t due []
  collect_starts zones size due (inl (why, refuses, is, same)) sound =
      subst (λ d. Progress w (command.Collect zones) w.graph t d []) (sym is)
      (no_change s t w b (command.Collect zones) (answer.Refused why)
      (inr (to_begin s t w b (zones_in zones) (AreMade w.graph zones) (zones_made zones) why refuses))
      (refused_plain why) same sound)
  collect_starts zones size due (inr (idle_is, made, is, leaves, new_is)) sound =
      let begun = preparing_begun w.graph zones s t w b.stands.represents b.stands.laws.valid size.0 size.1 idle_is made
      leaves new_is in
      let lawful : Answers w (command.Gc zones) [] answer.GcBegun begun.0 = inl (refl, refl, begun.1) in
      let stands = closing w.graph t w begun.0 (command.Gc zones) [] answer.GcBegun b.stands.laws lawful begun.2 sound
      (ap (λ (u : Shown). u.told) new_is ∙ b.none_told) (λ o. cc (o.ended, ap (λ (u : Shown). u.stage) new_is))
      b.stands.laws.registers b.stands.laws.slots in
      let preparing_is : begun.0.preparing ≡ Some (first_preparation w (zones_in zones)) =
      ap (λ (z : World). z.preparing) begun.1.world_is in
      subst (λ d. Progress w (command.Collect zones) w.graph t d []) (sym is) (record {
        begun = begun.0;
        of = collect begun.1;
        running = inr (first_preparation w (zones_in zones), preparing_is);
        fits = λ n e. omega arith;
        so_far = record {
          units = [];
          tail = [];
          now = begun.0;
          state = between refl stands.not_over;
          stands = stands.stands;
          lines = ap told_lines stands.none_told;
          count = omega arith;
          tally = first_tally begun.0 (first_preparation w (zones_in zones));
          has_tally = inr (first_preparation w (zones_in zones), preparing_is, refl);
          counted = record {
            prepared = λ p. (refl, inr (first_preparation w (zones_in zones), preparing_is, refl));
            begun = λ n. absurd (cc (n, ap (λ (u : Shown). is_prepared u.stage) new_is));
          };
        };
      })

module _ (s t : Shown) (w : World) (b : StandsBetween w.graph s w) where
  -- units
  of_same : (most : Option ℕ) → t ≡ s → s.stage ≢ idle → HasUnitsSoFar w w.graph t 0 []
  of_same most same some = subst (λ u. HasUnitsSoFar w w.graph u 0 []) (sym same) (no_units s t w b some)

  slice_starts : (n : ℕ) (due : Due) → GoesOn (units (Some n) false 0) s.stage due → t ≡ s → IsSound w.graph t
      → Progress w (command.Slice n) w.graph t due []
  slice_starts n due (inl (some, is)) same sound =
      subst (λ d. Progress w (command.Slice n) w.graph t d []) (sym is) (record {
        begun = w;
        of = slice;
        running = running_world b.stands.represents some;
        fits = λ m e. omega arith;
        so_far = of_same (Some n) same some;
      })
  slice_starts n due (inr (idle_is, is)) same sound =
      subst (λ d. Progress w (command.Slice n) w.graph t d []) (sym is)
      (no_change s t w b (command.Slice n) (answer.Refused refusal.Idle) (inr (idle_refusal s t w b idle_is))
      (refused_plain refusal.Idle) same sound)

  finish_starts : (due : Due) → GoesOn (units None false 0) s.stage due → t ≡ s → IsSound w.graph t
      → Progress w command.Finish w.graph t due []
  finish_starts due (inl (some, is)) same sound =
      subst (λ d. Progress w command.Finish w.graph t d []) (sym is) (record {
        begun = w;
        of = finish;
        running = running_world b.stands.represents some;
        fits = λ m e. omega arith;
        so_far = of_same None same some;
      })
  finish_starts due (inr (idle_is, is)) same sound =
      subst (λ d. Progress w command.Finish w.graph t d []) (sym is)
      (no_change s t w b command.Finish (answer.Refused refusal.Idle) (inr (idle_refusal s t w b idle_is))
      (refused_plain refusal.Idle)
      same sound)

  -- a reset
  reset_starts : (due : Due) → GoesOn resets s.stage due → t ≡ s → IsSound w.graph t
      → Progress w command.Reset w.graph t due []
  reset_starts due (inl (some, is)) same sound =
      subst (λ d. Progress w command.Reset w.graph t d []) (sym is) (
        refl,
        running_world b.stands.represents some,
        subst (λ u. HasSweptSoFar w w.graph u []) (sym same) (record {
          sweeps = [];
          now = w;
          swept = refl;
          stands = b.stands;
          some = some;
          none_told = b.none_told;
          lines = refl;
        }),
      )
  reset_starts due (inr (idle_is, is)) same sound =
      subst (λ d. Progress w command.Reset w.graph t d []) (sym is)
      (no_change s t w b command.Reset (answer.Refused refusal.Idle) (inr (idle_refusal s t w b idle_is))
      (refused_plain refusal.Idle)
      same sound)

  -- a compaction
  compact_starts : (zone : ℕ) (due : Due) → AsksCompact w.graph zone s due t → IsSound w.graph t
      → Progress w (command.Compact zone) w.graph t due []
  compact_starts zone due (inl (why, refuses, is, same)) sound =
      subst (λ d. Progress w (command.Compact zone) w.graph t d []) (sym is)
      (no_change s t w b (command.Compact zone) (answer.Refused why)
      (inr (to_begin s t w b (zone ∷ []) (zone < w.graph.zones) (λ m. m zone (contains_head zone [])) why refuses))
      (refused_plain why) same sound)
  compact_starts zone due (inr (idle_is, made, moved, given, is, packs)) sound =
      let c = compacted w.graph zone s t moved given w b.stands.represents idle_is packs in
      subst (λ d. Progress w (command.Compact zone) w.graph t d []) (sym is)
      (one_line s t w b (command.Compact zone) (answer.Compacted moved given) w.graph c.0
      (inl (moved, given, refl, refl, c.1))
      (record { line = refl; small = tt }) c.2 sound (ap (λ (u : Shown). u.stage) packs.new_is)
      (ap (λ (u : Shown). u.out) packs.new_is) (ap (λ (u : Shown). u.told) packs.new_is) (same_sizes s t w b))

module _ (s t : Shown) (w : World) (b : StandsBetween w.graph s w) where
  -- any command
  starts_at : PlacesCells → (text : List ℕ) (c : Cmd) → Spells text c → (due : Due) → Asks w.graph s c due t
      → IsSound (graph_after w.graph s c) t → Progress w c (graph_after w.graph s c) t due []
  starts_at places text (command.Graph c) spells due (is, obeys) sound =
      subst (λ d. Progress w (command.Graph c) (step_of w.graph c).0 t d []) (sym is)
      (graph_starts s t w b places c obeys sound)
  starts_at places text (command.Gc zones) spells due asks sound =
      gc_starts s t w b zones (spelled_zones text (command.Gc zones) zones spells (inl refl)) due asks sound
  starts_at places text (command.Slice n) spells due (goes, same) sound = slice_starts s t w b n due goes same sound
  starts_at places text command.Finish spells due (goes, same) sound = finish_starts s t w b due goes same sound
  starts_at places text (command.Collect zones) spells due asks sound =
      collect_starts s t w b zones (spelled_zones text (command.Collect zones) zones spells (inr refl)) due asks sound
  starts_at places text command.Colours spells due (lists, same) sound = colours_start s t w b due lists same sound
  starts_at places text command.Dump spells due (dumps, same) sound = dump_starts s t w b due dumps same sound
  starts_at places text command.Reset spells due (goes, same) sound = reset_starts s t w b due goes same sound
  starts_at places text (command.Weak c) spells due asks sound = weak_starts s t w b places c due asks sound
  starts_at places text (command.Compact zone) spells due asks sound = compact_starts s t w b zone due asks sound

-- a command that the judge has read, in the world before it
pub starts : PlacesCells → (g : GraphState) (s t : Shown) (w : World) → StandsBetween g s w → (text : List ℕ) (c : Cmd)
    → Spells text c → (due : Due) → Asks g s c due t → IsSound (graph_after g s c) t
    → Progress w c (graph_after g s c) t due []
starts places g s t w b text c spells due =
    subst (λ a. StandsBetween a s w → Asks a s c due t → IsSound (graph_after a s c) t
    → Progress w c (graph_after a s c) t due []) b.stands.represents.graph_is
    (λ b. starts_at s t w b places text c spells due) b
