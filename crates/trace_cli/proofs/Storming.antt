-- The lines of a storm, how a replay of it ends, and what its collector tells.
use Rattle.std.proofs.Common.{◌≡◌, ◌≢◌, ◌↔◌, ◌<◌, ◌≤◌, ◌+◌, ℕ, zero, suc, List, [], ◌∷◌, ◌++◌, length, take, Option}
use Rattle.std.proofs.Common.{Some, None, refl, ap, sym, subst, ◌∙◌, arith, append_assoc, length-append, inl, inr}
use Rattle.std.proofs.Common.{Contains, Bool, true, false, append-nil}
use Rattle.std.specs.Prelude.{All}
use Rattle.std.specs.Io.KnownBytes.{Appends}
use Rattle.std.specs.Ordering.{is_eq, is_lt}
use Rattle.std.specs.declared.cmp.Ordering.{Ordering}
use Rattle.std.specs.declared.cmp.Ordering.TheVariants as ordering
use Rattle.std.specs.List.{AllByRecursion, IsDistinct}
use Rattle.std.proofs.KnownBytes.{Appends-trans}
use Rattle.std.proofs.lemmas.Bool.{cases_lt}
use Rattle.std.proofs.lemmas.List.Elements.{All-append, All-cons, All-nil}
use Rattle.std.proofs.lemmas.Map.Made.{AllPairs-from_IsDistinct}
use Rattle.gz_io.specs.Causes.{Rose}
use Rattle.gz_names.specs.Order.{name_cmp, same_name}
use Rattle.gz_names.specs.Zones.{zones_in}
use Rattle.gz_names.specs.declared.names.Name.{Name}
use Rattle.gz_names.specs.declared.commands.Cmd.{Cmd}
use Rattle.gz_names.specs.declared.zone_sets.ZoneSet.{ZoneSet}
use Rattle.gz_names.specs.declared.commands.Cmd.TheVariants as command
use Rattle.gz_names.specs.declared.commands.GraphCmd.TheVariants as cmd
use Rattle.cell_bits.specs.declared.bits.Bits.{Bits}
use Rattle.colour_defs.specs.Ends.{IsAscending, Lists}
use Rattle.colour_defs.specs.Graph.{GraphState, empty_graph}
use Rattle.colour_defs.specs.Lawful.{Run}
use Rattle.colour_defs.specs.Laws.{IsNoWeakCmd, IsValid}
use Rattle.colour_defs.specs.World.{Has, World, IsPresent, IsSettled, first_world, marking_of}
use Rattle.colour_defs.proofs.Lists.{contains_cases, contains_head, contains_tail, nothing_in_none}
use Rattle.colour_defs.proofs.Names.{eq_name-refl, same_name-is}
use Rattle.collection_laws.specs.Collected.{AreAllZones, IsGray, IsKept}
use Rattle.collection_laws.specs.Graphs.{graph_after}
use Rattle.collection_laws.proofs.Graphs.{run_graph}
use Rattle.collection_laws.proofs.LastLines.{run_collected}
use Rattle.collection_laws.proofs.Zones.{zones_kept}
use Rattle.slice_driver.specs.Collector.{CollectorState}
use Rattle.slice_driver.specs.Represents.{Represents}
use Rattle.slice_driver.specs.Present.{present_in_all}
use Rattle.slice_driver.specs.Units.{IsSound, none_flown}
use Rattle.slice_driver.proofs.abstraction.IdleFlight.{idle_flown}
use Rattle.slice_driver.proofs.abstraction.Phases.{placed_in}
use Rattle.trace_lang.proofs.Fine.{spells_fine}
use Rattle.storm_source.specs.Commands.{MakesNoZone, SpellAll}
use Rattle.storm_source.specs.Trace.{drawn_lines, head_lines, line_state, storm_lines, storm_text, tail_lines}
use Rattle.storm_source.specs.Trace.{text_of}
use Rattle.storm_source.proofs.Spelled.{storm_spells}
use Rattle.storm_source.proofs.Exact.{storm_exact}
use Rattle.trace_cli.specs.Headline.{Ends, EndsSo, LeadsTo, StandForAll}
use Rattle.trace_cli.specs.Lines.{lines_of}
use Rattle.trace_cli.specs.Reaching.{Stands}
use Rattle.trace_cli.specs.Standing.{Entry, HandsOn, HasEnded, ReplayEnds, entry_of}
use Rattle.command_source.specs.Input.{Input}
use Rattle.trace_cli.specs.Storms.{Counts, IsLeftByStorm, IsSummary, StopsStorm, Storms, summary_text}
use Rattle.trace_cli.specs.declared.exit.Exit.{Exit}
use Rattle.trace_cli.specs.declared.exit.Exit.TheVariants as exit
use Rattle.trace_cli.specs.declared.machine.Machine.{Machine}
use Rattle.trace_cli.specs.declared.storm.Summary.{Summary}
use Rattle.trace_cli.proofs.Complete.{by_exit}
use Rattle.trace_cli.proofs.Counted.{present_counted, same_decides}
use Rattle.trace_cli.proofs.Flights.{idle_run}
use Rattle.trace_cli.proofs.Lined.{lines_of-line}

-- lines and the commands that they stand for
stand_all : (lines : List (List ℕ)) (cs : List Cmd) → SpellAll lines cs → StandForAll lines cs
stand_all [] [] s = tt
stand_all (line ∷ lines) (c ∷ cs) s = (s.0, stand_all lines cs s.1)
stand_all [] (c ∷ cs) s = absurd s
stand_all (line ∷ lines) [] s = absurd s

spell_all : (lines : List (List ℕ)) (cs : List Cmd) → StandForAll lines cs → SpellAll lines cs
spell_all [] [] s = tt
spell_all (line ∷ lines) (c ∷ cs) s = (s.0, spell_all lines cs s.1)
spell_all [] (c ∷ cs) s = absurd s
spell_all (line ∷ lines) [] s = absurd s

stand_front : (n : ℕ) (lines : List (List ℕ)) (cs : List Cmd) → StandForAll lines cs
    → StandForAll (take n lines) (take n cs)
stand_front zero lines cs s = tt
stand_front (suc n) [] [] s = tt
stand_front (suc n) (line ∷ lines) (c ∷ cs) s = (s.0, stand_front n lines cs s.1)
stand_front (suc n) [] (c ∷ cs) s = absurd s
stand_front (suc n) (line ∷ lines) [] s = absurd s

-- lines of the language are those of their text
text_lines : (lines : List (List ℕ)) (cs : List Cmd) → SpellAll lines cs → lines_of (text_of lines) ≡ lines
text_lines [] [] s = refl
text_lines (line ∷ lines) (c ∷ cs) s =
    ap lines_of (append_assoc line (10 ∷ []) (text_of lines))
    ∙ lines_of-line line (text_of lines) (spells_fine line c s.0).plain
    ∙ ap (λ (ls : List (List ℕ)). line ∷ ls) (text_lines lines cs s.1)
text_lines [] (c ∷ cs) s = absurd s
text_lines (line ∷ lines) [] s = absurd s

storm_has_lines : (seed lines : ℕ) → lines_of (storm_text seed lines) ≡ storm_lines seed lines
storm_has_lines seed lines =
    let s = storm_spells seed lines in text_lines (storm_lines seed lines) s.0 s.1

-- how many they are
drawn_length : (n x : ℕ) → length (drawn_lines n x) ≡ n
drawn_length zero x = refl
drawn_length (suc n) x = let rest = drawn_length n (line_state x) in omega (arith, rest)

storm_length : (seed lines : ℕ) → length (storm_lines seed lines) ≡ lines + 19
storm_length seed lines =
    let all = length-append head_lines (drawn_lines lines seed ++ tail_lines) in
    let rest = length-append (drawn_lines lines seed) tail_lines in
    let drawn = drawn_length lines seed in
    let head : length head_lines ≡ 16 = refl in
    let tail : length tail_lines ≡ 3 = refl in
    omega (arith, all, rest, drawn, head, tail)

-- what was appended, and then nothing
whole : (old mid new : Option (List ℕ)) (text : List ℕ) → Appends old mid text → Appends mid new []
    → Appends old new text
whole old mid new text wrote kept =
    subst (λ (t : List ℕ). Appends old new t) (append-nil text) (Appends-trans old mid new text [] wrote kept)

-- the count of a source or a sink that never fails does not rise
never_rose : Rose 0 0 → ⊥
never_rose rose = let r : 1 ≤ 0 = rose in absurd (omega (arith, r))

-- a replay of a storm ends with its last line, for want of memory, or at too many lines
pub data StormEnds (lines : ℕ) (e : Exit) : Type 0 where
  at_end : e ≡ exit.Done → StormEnds lines e
  before_end : StopsStorm lines e → StormEnds lines e

storm_ends : (seed lines : ℕ) (e : Exit) (rest output : List ℕ)
    → EndsSo e (storm_text seed lines) rest output → (e ≡ exit.ReadFault → Rose 0 0)
    → (e ≡ exit.WriteFault → Rose 0 0) → e ≢ exit.Usage → StormEnds lines e
storm_ends seed lines e rest output ends read write usage =
    let same = storm_has_lines seed lines in
    let s = storm_spells seed lines in
    let stands = stand_all (storm_lines seed lines) s.0 s.1 in
    let count = storm_length seed lines in
    let so : Ends (storm_lines seed lines) e = subst (λ (ls : List (List ℕ)). Ends ls e) same
    (by_exit e (storm_text seed lines) rest output 0 0 0 0 ends read write usage never_rose never_rose) in
    elim (cases_lt 4294967295 (length (storm_lines seed lines))) [
      | inl many ↦ elim (so.at_most (take 4294967295 s.0) many
          (stand_front 4294967295 (storm_lines seed lines) s.0 stands)) [
            | inl most ↦ before_end (inr (most, omega (arith, many, count)))
            | inr memory ↦ before_end (inl memory)
          ]
      | inr few ↦ elim (so.at_end s.0 stands (omega (arith, few))) [
        | inl end ↦ at_end end
        | inr memory ↦ before_end (inl memory)
      ]
    ]

-- what a replay of a storm that ended so was
abbrev pub storm_entry : List ℕ → Entry
storm_entry text = entry_of (Some text) None 0 0

pub storm_over : (seed lines : ℕ) (text : List ℕ) → text ≡ storm_text seed lines → (e : Exit)
    (left written : Option (List ℕ)) (behind : ℕ) → ReplayEnds (storm_entry text) e left written 0 0 behind
    → StormEnds lines e
storm_over seed lines text is e None written behind h = absurd h.lawful
storm_over seed lines text is e (Some rest) written behind h =
    storm_ends seed lines e rest h.lawful.0
    (subst (λ (t : List ℕ). EndsSo e t rest h.lawful.0) is h.lawful.2) h.read h.write h.runs

-- so it stops for one of two causes, if it is not done
pub storm_stops : {lines : ℕ} {e : Exit} → StormEnds lines e → e ≢ exit.Done → StopsStorm lines e
storm_stops (at_end is) other = absurd (other is)
storm_stops (before_end so) other = so

-- the zones that are collected at the end
below_four : (z : ℕ) → z < 4 → Contains (0 ∷ 1 ∷ 2 ∷ 3 ∷ []) z
below_four zero lt = contains_head 0 (1 ∷ 2 ∷ 3 ∷ [])
below_four (suc zero) lt = contains_tail 0 (1 ∷ 2 ∷ 3 ∷ []) 1 (contains_head 1 (2 ∷ 3 ∷ []))
below_four (suc (suc zero)) lt =
    contains_tail 0 (1 ∷ 2 ∷ 3 ∷ []) 2 (contains_tail 1 (2 ∷ 3 ∷ []) 2 (contains_head 2 (3 ∷ [])))
below_four (suc (suc (suc zero))) lt =
    contains_tail 0 (1 ∷ 2 ∷ 3 ∷ []) 3
    (contains_tail 1 (2 ∷ 3 ∷ []) 3 (contains_tail 2 (3 ∷ []) 3 (contains_head 3 [])))
below_four (suc (suc (suc (suc z)))) lt = absurd (omega (arith, lt))

four_below : (z : ℕ) → Contains (0 ∷ 1 ∷ 2 ∷ 3 ∷ []) z → z < 4
four_below z c = elim (contains_cases 0 (1 ∷ 2 ∷ 3 ∷ []) z c) [
  | inl e ↦ omega (arith, e)
  | inr a ↦ elim (contains_cases 1 (2 ∷ 3 ∷ []) z a) [
    | inl e ↦ omega (arith, e)
    | inr b ↦ elim (contains_cases 2 (3 ∷ []) z b) [
      | inl e ↦ omega (arith, e)
      | inr d ↦ elim (contains_cases 3 [] z d) [ inl e ↦ omega (arith, e) | inr n ↦ absurd (nothing_in_none z n) ]
    ]
  ]
]

abbrev with_zones : List Cmd → List Cmd
with_zones cs = command.Graph cmd.Zone ∷ command.Graph cmd.Zone ∷ command.Graph cmd.Zone ∷ command.Graph cmd.Zone ∷ cs

abbrev collecting : ZoneSet → List Cmd
collecting zones = command.Finish ∷ command.Collect zones ∷ command.Colours ∷ []

-- to make a zone names nothing weakly, and so does no command at the end
one_plain : (cs : List Cmd) → All IsNoWeakCmd cs → All IsNoWeakCmd (command.Graph cmd.Zone ∷ cs)
one_plain cs none = All-cons IsNoWeakCmd (command.Graph cmd.Zone) cs (λ k e. cc e) none

zones_plain : (cs : List Cmd) → All IsNoWeakCmd cs → All IsNoWeakCmd (with_zones cs)
zones_plain cs none = one_plain (command.Graph cmd.Zone ∷ command.Graph cmd.Zone ∷ command.Graph cmd.Zone ∷ cs)
    (one_plain (command.Graph cmd.Zone ∷ command.Graph cmd.Zone ∷ cs)
    (one_plain (command.Graph cmd.Zone ∷ cs) (one_plain cs none)))

end_plain : (zones : ZoneSet) → All IsNoWeakCmd (collecting zones)
end_plain zones = All-cons IsNoWeakCmd command.Finish (command.Collect zones ∷ command.Colours ∷ []) (λ k e. cc e)
    (All-cons IsNoWeakCmd (command.Collect zones) (command.Colours ∷ []) (λ k e. cc e)
    (All-cons IsNoWeakCmd command.Colours [] (λ k e. cc e) (All-nil IsNoWeakCmd)))

four_made : (cs : List Cmd) → All MakesNoZone cs → (graph_after empty_graph (with_zones cs)).zones ≡ 4
four_made cs none = zones_kept (graph_after empty_graph (with_zones [])) cs none

all_named : (cs : List Cmd) (zones : List ℕ) → All MakesNoZone cs → zones ≡ 0 ∷ 1 ∷ 2 ∷ 3 ∷ []
    → AreAllZones (graph_after empty_graph (with_zones cs)) zones
all_named cs zones none are z = (
  λ c. subst (λ (n : ℕ). z < n) (sym (four_made cs none))
      (four_below z (subst (λ (zs : List ℕ). Contains zs z) are c)),
  λ lt. subst (λ (zs : List ℕ). Contains zs z) (sym are)
      (below_four z (subst (λ (n : ℕ). z < n) (four_made cs none) lt)),
)

-- the world that all lines lead to
storm_left : (seed lines : ℕ) (output : List ℕ) (w : World) (c : CollectorState) (flown : ℕ → Option Bits)
    → LeadsTo (storm_lines seed lines) output w → Represents c flown w → IsValid w → IsLeftByStorm seed lines c
storm_left seed lines output w c flown leads rep ok =
    let spelled = spell_all (storm_lines seed lines) leads.commands leads.stand in
    let of = storm_exact seed lines leads.commands spelled in
    let run : Run first_world (with_zones of.between ++ collecting of.zones) leads.answers w =
    subst (λ (cs : List Cmd). Run first_world cs leads.answers w) of.commands_are leads.run in
    let end = run_collected (with_zones of.between) leads.answers w of.zones (zones_plain of.between of.none_weak)
    (all_named of.between (zones_in of.zones) of.none_made of.zones_are) run in
    let idle = idle_run c flown w rep end.0.idle in
    record {
      commands = leads.commands;
      stand = leads.stand;
      world = w;
      represents = subst (λ (f : ℕ → Option Bits). Represents c f w) (idle_flown c flown w rep idle) rep;
      valid = ok;
      collected = end.0;
      graph_is = run_graph first_world leads.commands leads.answers w
          (subst (λ (cs : List Cmd). All IsNoWeakCmd cs) (sym of.commands_are)
          (zones_plain (of.between ++ collecting of.zones)
          (All-append IsNoWeakCmd of.between (collecting of.zones) of.none_weak (end_plain of.zones)))) leads.run;
    }

all_led : (input : List ℕ) (rest written : Option (List ℕ)) (n : ℕ) (w : World)
    → Stands (Some input) rest None written n w → ((xs : List ℕ) → rest ≡ Some xs → xs ≡ [])
    → (output : List ℕ) × LeadsTo (lines_of input) output w
all_led input None written n w h read = absurd h
all_led input (Some xs) written n w h read =
    let all : h.done ≡ lines_of input = sym (h.lines ∙ ap (λ (ys : List ℕ). h.done ++ lines_of ys) (read xs refl)
    ∙ append-nil h.done) in
    (h.output, subst (λ (ls : List (List ℕ)). LeadsTo ls h.output w) all h.leads)

pub storm_done : (seed lines : ℕ) (text : List ℕ) → text ≡ storm_text seed lines → (e : Exit) (m : Machine) (i : Input)
    (written : Option (List ℕ)) (writes behind : ℕ) → HasEnded (storm_entry text) e m i written writes behind
    → e ≡ exit.Done → IsLeftByStorm seed lines m.collector
storm_done seed lines text is e m i written writes behind h done =
    let end = h.ends_in done in
    let led = all_led text end.rest written m.answered end.here.world end.here.stands end.read in
    let same : lines_of text ≡ storm_lines seed lines = ap lines_of is ∙ storm_has_lines seed lines in
    storm_left seed lines led.0 end.here.world m.collector end.flown
    (subst (λ (ls : List (List ℕ)). LeadsTo ls led.0 end.here.world) same led.1) end.here.represents end.here.valid

-- names that are counted
counts_as : (P Q : Name → Type 0) (n : ℕ) → ((x : Name) → P x ↔ Q x) → Counts P n → Counts Q n
counts_as P Q n same h = record {
  names = h.names;
  exact = λ x. ((λ c. (same x).0 ((h.exact x).0 c)), (λ q. (h.exact x).1 ((same x).1 q)));
  each_once = h.each_once;
  number = h.number;
}

not_both : (o : Ordering) → is_lt o ≡ true → is_eq o ≡ true → ⊥
not_both ordering.Less lt eq = cc eq
not_both ordering.Equal lt eq = cc lt
not_both ordering.Greater lt eq = cc lt

apart : (x y : Name) (b : Bool) → same_name x y ≡ b → is_lt (name_cmp x y) ≡ true → same_name x y ≡ false
apart x y true e lt =
    let same = same_name-is x y e in
    absurd (not_both (name_cmp x x) (subst (λ (z : Name). is_lt (name_cmp x z) ≡ true) (sym same) lt) (eq_name-refl x))
apart x y false e lt = e

apart_all : (x : Name) (xs : List Name) → AllByRecursion (λ y. is_lt (name_cmp x y) ≡ true) xs
    → AllByRecursion (λ y. same_name x y ≡ false) xs
apart_all x [] h = tt
apart_all x (y ∷ ys) h = (apart x y (same_name x y) refl h.0, apart_all x ys h.1)

ascending_distinct : (xs : List Name) → IsAscending xs → IsDistinct same_name xs
unfolding IsDistinct
ascending_distinct [] h = tt
ascending_distinct (x ∷ xs) h = (apart_all x xs h.0, ascending_distinct xs h.1)

counts_listed : (P : Name → Type 0) (names : List Name) → Lists P names → Counts P (length names)
counts_listed P names h = record {
  names = names;
  exact = h.has;
  each_once = AllPairs-from_IsDistinct same_decides names (ascending_distinct names h.ascending);
  number = refl;
}

-- what a collector tells after a storm
module _ (seed lines : ℕ) (c : CollectorState) (h : IsLeftByStorm seed lines c) where
  pub storm_sound : IsSound c none_flown
  storm_sound = record { world = h.world; valid = h.valid; represents = h.represents }

  pub storm_cells : c.heap.shape.objects ≡ length (graph_after empty_graph h.commands).objects
  storm_cells =
      let lies = (placed_in c none_flown h.world h.represents).lies in
      sym lies.shown.objects_made ∙ lies.part.part.made ∙ ap (λ (g : GraphState). length g.objects) h.graph_is

  pub storm_kept : Counts (IsKept (graph_after empty_graph h.commands)) (present_in_all c.heap.shape.arenas)
  storm_kept =
      subst (λ (g : GraphState). Counts (IsKept g) (present_in_all c.heap.shape.arenas)) h.graph_is
      (counts_as (IsPresent h.world) (IsKept h.world.graph) _ h.collected.present
      (present_counted c none_flown h.world h.represents))

  settled : IsSettled h.world
  settled = record {
    none_marking = ap marking_of h.collected.idle.none_running;
    none_preparing = h.collected.idle.none_preparing;
  }

  pub storm_gray : (names : List Name)
      → ((w : World) → Represents c none_flown w → IsSettled w → Lists (λ x. IsPresent w x × (Has w.black x → ⊥)) names)
      → Counts (IsGray (graph_after empty_graph h.commands)) (length names)
  storm_gray names lists =
      subst (λ (g : GraphState). Counts (IsGray g) (length names)) h.graph_is
      (counts_as _ (IsGray h.world.graph) _ h.collected.gray
      (counts_listed _ names (lists h.world h.represents settled)))

-- what was written, by the exit
module _ (seed lines : ℕ) (old new : Option (List ℕ)) where
  pub storm_stopped : {f g behind : ℕ} (x r : Exit) → StopsStorm lines x → HandsOn x r f g behind → Appends old new []
      → Storms seed lines old new r
  storm_stopped x r why (inr h) wrote = subst (Storms seed lines old new) (sym h.0) (inl wrote)
  storm_stopped x r (inl memory) (inl h) wrote = subst (Storms seed lines old new) (sym (h.0 ∙ memory)) wrote
  storm_stopped x r (inr many) (inl h) wrote =
      subst (Storms seed lines old new) (sym (h.0 ∙ many.0)) (many.1, wrote)

  pub storm_summed : {f g behind : ℕ} (mid : Option (List ℕ)) (s : Summary) (r : Exit) → IsSummary seed lines s
      → Appends old mid (summary_text s) → HandsOn exit.Done r f g behind → Appends mid new []
      → Storms seed lines old new r
  storm_summed mid s r is wrote (inl e) kept =
      subst (Storms seed lines old new) (sym e.0) (s, is, whole old mid new (summary_text s) wrote kept)
  storm_summed mid s r is wrote (inr e) kept =
      subst (Storms seed lines old new) (sym e.0)
      (inr (
        s,
        is,
        (
          summary_text s,
          [],
          sym (append-nil (summary_text s)),
          whole old mid new (summary_text s) wrote kept,
        ),
      ))

-- the counts of a sink's faults, where all was written and then handed on, or not
module _ (before mid now behind : ℕ) (x r : Exit) (other : x ≢ exit.WriteFault) (cause : HandsOn x r mid now behind)
    (same : mid ≡ before) where
  pub handed_quiet : r ≡ exit.Done → now ≡ before
  handed_quiet done = elim cause [ inl h ↦ h.1 ∙ same | inr h ↦ absurd (cc (h.0, done)) ]

  pub handed_rose : r ≡ exit.WriteFault → Rose before now
  handed_rose failed = elim cause [
    | inl h ↦ absurd (other (sym h.0 ∙ failed))
    | inr h ↦ subst (λ (n : ℕ). Rose n now) same h.1
  ]

-- why a storm stops is no failed write
pub stops_unwritten : (lines : ℕ) (x : Exit) → StopsStorm lines x → x ≢ exit.WriteFault
stops_unwritten lines x (inl memory) k = cc (memory, k)
stops_unwritten lines x (inr many) k = let t = many.0 in cc (t, k)
