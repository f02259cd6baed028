-- What becomes of numbers in a whole run.
use Rattle.std.proofs.Common.{◌≡◌, ℕ, inl, inr, List, [], ◌∷◌, ◌++◌, Bool, true, false, cond, refl, sym, ap, subst, ◌∙◌}
use Rattle.std.proofs.Common.{length, Option, Some, None, append_assoc}
use Rattle.std.specs.FinSet as set
use Rattle.std.specs.List.{flat_map}
use Rattle.gz_names.specs.Zones.{zones_in}
use Rattle.gz_names.specs.declared.names.Name.{Name}
use Rattle.gz_names.specs.declared.commands.WeakCmd.{WeakCmd}
use Rattle.gz_names.specs.declared.commands.WeakCmd.TheVariants.{Weaken, Deref, Watch, Unwatch}
use Rattle.gz_names.specs.declared.commands.Cmd.{Cmd}
use Rattle.gz_names.specs.declared.commands.Cmd.TheVariants.{Graph, Weak, Gc, Slice, Finish, Collect, Reset, Colours}
use Rattle.gz_names.specs.declared.commands.Cmd.TheVariants.{Dump, Compact}
use Rattle.gz_names.specs.declared.replies.Reply.{Reply}
use Rattle.gz_names.specs.declared.replies.Reply.TheVariants as reply
use Rattle.gz_names.specs.declared.replies.Report.{Report}
use Rattle.gz_names.specs.declared.replies.Report.TheVariants.{Started, Groups, Ended, Swept, Done, Stopped}
use Rattle.colour_defs.specs.Graph.{GraphState, register_cell, zone_of}
use Rattle.colour_defs.specs.Step.{named_or_null, with_register}
use Rattle.colour_defs.specs.World.{World, Collection, Preparation, HasPlace, IsPresent, AcceptsIn, first_world}
use Rattle.colour_defs.specs.WeakRefs.{WeakInWorld, unwatch_cell, watch_cell, weak_cell, with_read, without_watched}
use Rattle.colour_defs.specs.Lawful.{Answers, AreLawfulSweeps, LastOfReset, RefusesIdle, RefusesToBegin, Run}
use Rattle.colour_defs.specs.Lawful.{Slices}
use Rattle.colour_defs.specs.Laws.{IsValid}
use Rattle.colour_defs.proofs.ValidRuns.{answer_valid, first_valid}
use Rattle.collection_laws.specs.Numbers.{GivesNext, IsAccounted, freed_in, given_after}
use Rattle.spec_laws.specs.NumbersInRuns.{GiveInOrder, freed_by, given_in}
use Rattle.collection_laws.proofs.Accounts.{command_accounts, first_accounts, prepares_accounts, report_accounts}
use Rattle.collection_laws.proofs.Accounts.{same_accounts, still_accounts, tells_none, units_accounts}
use Rattle.collection_laws.proofs.Lying.{StaysInPlace}
use Rattle.collection_laws.proofs.Times.{freed_append}
use Rattle.collection_laws.proofs.MovedNumbers.{compacts_accounts}

-- an answer gives the next number or none, and tells its reports' names as freed
abbrev Goes : ℕ → List Name → List Report → Reply → World → Type 0
Goes given freed reports answer v =
    GivesNext given answer × IsAccounted v (given_after given answer) (freed ++ freed_in reports)

silent_accounts : (v : World) (given : ℕ) (freed : List Name) (reports : List Report) → reports ≡ []
    → IsAccounted v given freed → IsAccounted v given (freed ++ freed_in reports)
silent_accounts v given freed reports silent a =
    subst (λ (rs : List Report). IsAccounted v given (freed ++ freed_in rs)) (sym silent) (tells_none v given freed a)

-- an answer that gives no number
no_number : (given : ℕ) (freed : List Name) (reports : List Report) (answer said : Reply) (v : World) → answer ≡ said
    → GivesNext given said → given_after given said ≡ given → IsAccounted v given (freed ++ freed_in reports)
    → Goes given freed reports answer v
no_number given freed reports answer said v is next none a =
    subst (λ (r : Reply). Goes given freed reports r v) (sym is)
    (next, subst (λ (n : ℕ). IsAccounted v n (freed ++ freed_in reports)) (sym none) a)

same_world : (w v : World) (given : ℕ) (freed : List Name) → v ≡ w → IsAccounted w given freed
    → IsAccounted v given freed
same_world w v given freed same a = subst (λ (u : World). IsAccounted u given freed) (sym same) a

refused_goes : (w : World) (zones : List ℕ) (reports : List Report) (answer : Reply) (v : World) (given : ℕ)
    (freed : List Name) → IsAccounted w given freed → RefusesToBegin w zones reports answer v
    → Goes given freed reports answer v
refused_goes w zones reports answer v given freed a (inl h) =
    no_number given freed reports answer _ v h.0 tt refl
    (silent_accounts v given freed reports h.2.silent (same_world w v given freed h.2.same a))
refused_goes w zones reports answer v given freed a (inr h) =
    no_number given freed reports answer _ v h.0 tt refl
    (silent_accounts v given freed reports h.3.silent (same_world w v given freed h.3.same a))

idle_goes : (w : World) (reports : List Report) (answer : Reply) (v : World) (given : ℕ) (freed : List Name)
    → IsAccounted w given freed → RefusesIdle w reports answer v → Goes given freed reports answer v
idle_goes w reports answer v given freed a h =
    no_number given freed reports answer _ v h.0 tt refl
    (silent_accounts v given freed reports h.2.silent (same_world w v given freed h.2.same a))

slices_goes : (w : World) (reports : List Report) (n : ℕ) (answer : Reply) (v : World) (given : ℕ) (freed : List Name)
    → IsAccounted w given freed → answer ≡ reply.Sliced n → Slices w reports n v → Goes given freed reports answer v
slices_goes w reports n answer v given freed a is s =
    no_number given freed reports answer (reply.Sliced n) v is tt refl
    (subst (λ (rs : List Report). IsAccounted v given (freed ++ freed_in rs)) (sym s.reports_are)
    (still_accounts s.after v given (freed ++ freed_in (flat_map (λ u. u) s.units))
    (ap (λ (u : World). u.graph) s.world_is) (ap (λ (u : World). u.places) s.world_is)
    (ap (λ (u : World). u.owner) s.world_is) (ap (λ (u : World). u.out) s.world_is)
    (ap (λ (u : World). u.white) s.world_is) (units_accounts w s.units s.after given freed s.done a)))

sweeps_goes : (w : World) (rs : List Report) (v : World) (given : ℕ) (freed : List Name) → IsAccounted w given freed
    → AreLawfulSweeps w rs v → IsAccounted v given (freed ++ freed_in rs)
sweeps_goes w [] v given freed a h = same_world w v given (freed ++ []) h (tells_none w given freed a)
sweeps_goes w (Swept arena names ∷ rs) v given freed a (u, first, rest) =
    let next : IsAccounted v given ((freed ++ freed_in (Swept arena names ∷ [])) ++ freed_in rs) =
    sweeps_goes u rs v given (freed ++ freed_in (Swept arena names ∷ []))
    (report_accounts w (Swept arena names) u given freed first a) rest in
    subst (λ (l : List Name). IsAccounted v given l)
    (append_assoc freed (freed_in (Swept arena names ∷ [])) (freed_in rs)
    ∙ ap (λ (l : List Name). freed ++ l) (sym (freed_append (Swept arena names ∷ []) rs))) next
sweeps_goes w (Started ∷ rs) v given freed a h = absurd h
sweeps_goes w (Groups groups ∷ rs) v given freed a h = absurd h
sweeps_goes w (Ended zones grays told ∷ rs) v given freed a h = absurd h
sweeps_goes w (Done ∷ rs) v given freed a h = absurd h
sweeps_goes w (Stopped zones ∷ rs) v given freed a h = absurd h

-- the last report of a reset
last_goes : (w : World) (r : Report) (v : World) (given : ℕ) (freed : List Name) → IsAccounted w given freed
    → LastOfReset w r v → IsAccounted v given (freed ++ freed_in (r ∷ []))
last_goes w Started v given freed a h = absurd h
last_goes w (Groups groups) v given freed a h = absurd h
last_goes w (Ended zones grays told) v given freed a h = absurd h
last_goes w (Swept arena names) v given freed a h = absurd h
last_goes w Done v given freed a h = report_accounts w Done v given freed h a
last_goes w (Stopped zones) v given freed a h = tells_none v given freed
    (still_accounts w v given freed (ap (λ (u : World). u.graph) h.world_is) (ap (λ (u : World). u.places) h.world_is)
    (ap (λ (u : World). u.owner) h.world_is) (ap (λ (u : World). u.out) h.world_is)
    (ap (λ (u : World). u.white) h.world_is) a)

-- a weak slot that is read: what it names is there
placed_stays : (w : World) (r : ℕ) (x : Name) (v : World) → IsPresent w x
    → HasPlace w (with_register w.graph r (Some x)) x v
    → StaysInPlace w v × (length v.graph.objects ≡ length w.graph.objects)
placed_stays w r x v there h = (
  record {
    zones = λ y z at. subst (λ (g : GraphState). zone_of g y ≡ Some z) (sym h.graph_is) at;
    places_is = (h.found there).0;
    owner_is = (h.found there).1;
    out_is = h.out_is;
    white_is = h.white_is;
  },
  ap (λ (g : GraphState). length g.objects) h.graph_is,
)

unplaced_stays : (w : World) (r : ℕ) (u v : World) → v ≡ u → u.graph ≡ with_register w.graph r None
    → u.places ≡ w.places → u.owner ≡ w.owner → u.out ≡ w.out → u.white ≡ w.white
    → StaysInPlace w v × (length v.graph.objects ≡ length w.graph.objects)
unplaced_stays w r u v is graph places owner out white = (
  record {
    zones = λ y z at. subst (λ (g : GraphState). zone_of g y ≡ Some z)
        (sym (ap (λ (x : World). x.graph) is ∙ graph)) at;
    places_is = ap (λ (x : World). x.places) is ∙ places;
    owner_is = ap (λ (x : World). x.owner) is ∙ owner;
    out_is = ap (λ (x : World). x.out) is ∙ out;
    white_is = ap (λ (x : World). x.white) is ∙ white;
  },
  ap (λ (x : World). length x.graph.objects) is ∙ ap (λ (g : GraphState). length g.objects) graph,
)

read_stays : (w : World) (r : ℕ) (o : Option Preparation) (k : Option Collection) (x : Option Name) (v : World)
    → ((y : Name) → x ≡ Some y → IsPresent w y) → AcceptsIn o w k (with_register w.graph r x) x None v
    → StaysInPlace w v × (length v.graph.objects ≡ length w.graph.objects)
read_stays w r None k None v there h =
    unplaced_stays w r (record w { graph = with_register w.graph r None; collection = k }) v h refl refl refl refl refl
read_stays w r None k (Some x) v there h = placed_stays w r x v (there x refl) h.0
read_stays w r (Some p) k None v there h =
    unplaced_stays w r (record w { graph = with_register w.graph r None }) v h refl refl refl refl refl
read_stays w r (Some p) k (Some x) v there h = placed_stays w r x v (there x refl) h.0

-- a weak command
weak_goes : (w : World) (c : WeakCmd) (answer : Reply) (v : World) (given : ℕ) (freed : List Name) → IsValid w
    → IsAccounted w given freed → WeakInWorld w c answer v
    → GivesNext given answer × IsAccounted v (given_after given answer) freed
weak_goes w (Weaken q r) answer v given freed ok a h =
    subst (λ (x : Reply). GivesNext given x × IsAccounted v (given_after given x) freed) (sym h.0) (
      tt,
      still_accounts w v given freed (ap (λ (u : World). u.graph) h.1) (ap (λ (u : World). u.places) h.1)
          (ap (λ (u : World). u.owner) h.1) (ap (λ (u : World). u.out) h.1) (ap (λ (u : World). u.white) h.1) a,
    )
weak_goes w (Deref r q) answer v given freed ok a h =
    let stays = read_stays w r w.preparing (with_read w.graph (weak_cell w q) w.collection) (weak_cell w q) v
    (ok.presence.weak q) h.1 in
    subst (λ (x : Reply). GivesNext given x × IsAccounted v (given_after given x) freed) (sym h.0)
    (named (weak_cell w q) (same_accounts w v given freed stays.0 stays.1 a))
  where
    named : (x : Option Name) → IsAccounted v given freed
        → GivesNext given (named_or_null x) × IsAccounted v (given_after given (named_or_null x)) freed
    named None b = (tt, b)
    named (Some x) b = (tt, b)
weak_goes w (Watch r) answer v given freed ok a h = go (register_cell w.graph r) h.0 h.1
  where
    go : (o : Option Name) → answer ≡ (watch_cell w o).1 → v ≡ (watch_cell w o).0
        → GivesNext given answer × IsAccounted v (given_after given answer) freed
    go None is e = subst (λ (x : Reply). GivesNext given x × IsAccounted v (given_after given x) freed) (sym is)
        (tt, same_world w v given freed e a)
    go (Some x) is e = subst (λ (x : Reply). GivesNext given x × IsAccounted v (given_after given x) freed) (sym is) (
      tt,
      still_accounts w v given freed (ap (λ (u : World). u.graph) e) (ap (λ (u : World). u.places) e)
          (ap (λ (u : World). u.owner) e) (ap (λ (u : World). u.out) e) (ap (λ (u : World). u.white) e) a,
    )
weak_goes w (Unwatch r) answer v given freed ok a h = go (register_cell w.graph r) h.0 h.1
  where
    go : (o : Option Name) → answer ≡ (unwatch_cell w o).1 → v ≡ (unwatch_cell w o).0
        → GivesNext given answer × IsAccounted v (given_after given answer) freed
    go None is e = subst (λ (x : Reply). GivesNext given x × IsAccounted v (given_after given x) freed) (sym is)
        (tt, same_world w v given freed e a)
    go (Some x) is e = by (set.contains w.weak.watched x) is e
      where
        by : (b : Bool) → answer
            ≡ (cond {A = World × Reply} b (without_watched w x, reply.Accepted) (w, reply.Absent)).1
            → v ≡ (cond {A = World × Reply} b (without_watched w x, reply.Accepted) (w, reply.Absent)).0
            → GivesNext given answer × IsAccounted v (given_after given answer) freed
        by true is e =
            subst (λ (x : Reply). GivesNext given x × IsAccounted v (given_after given x) freed) (sym is) (
              tt,
              still_accounts w v given freed (ap (λ (u : World). u.graph) e) (ap (λ (u : World). u.places) e)
                  (ap (λ (u : World). u.owner) e) (ap (λ (u : World). u.out) e) (ap (λ (u : World). u.white) e) a,
            )
        by false is e =
            subst (λ (x : Reply). GivesNext given x × IsAccounted v (given_after given x) freed) (sym is)
            (tt, same_world w v given freed e a)

-- what gives the next number or none, and reports nothing
quiet_goes : (given : ℕ) (freed : List Name) (reports : List Report) (answer : Reply) (v : World) → reports ≡ []
    → GivesNext given answer × IsAccounted v (given_after given answer) freed → Goes given freed reports answer v
quiet_goes given freed reports answer v silent h =
    (h.0, silent_accounts v (given_after given answer) freed reports silent h.1)

-- an answer
answer_goes : (w : World) (c : Cmd) (reports : List Report) (answer : Reply) (v : World) (given : ℕ)
    (freed : List Name) → IsValid w → IsAccounted w given freed → Answers w c reports answer v
    → Goes given freed reports answer v
answer_goes w (Graph c) reports answer v given freed ok a h =
    quiet_goes given freed reports answer v h.0 (command_accounts w c answer v given freed ok a h.1)
answer_goes w (Weak c) reports answer v given freed ok a h =
    quiet_goes given freed reports answer v h.0 (weak_goes w c answer v given freed ok a h.1)
answer_goes w (Gc zones) reports answer v given freed ok a (inl h) =
    no_number given freed reports answer reply.GcBegun v h.0 tt refl
    (silent_accounts v given freed reports h.1 (prepares_accounts w (zones_in zones) v given freed h.2 a))
answer_goes w (Gc zones) reports answer v given freed ok a (inr h) =
    refused_goes w (zones_in zones) reports answer v given freed a h
answer_goes w (Slice n) reports answer v given freed ok a (inl h) =
    slices_goes w reports h.0 answer v given freed a h.1 h.2
answer_goes w (Slice n) reports answer v given freed ok a (inr h) = idle_goes w reports answer v given freed a h
answer_goes w Finish reports answer v given freed ok a (inl h) =
    slices_goes w reports h.0 answer v given freed a h.1 h.2
answer_goes w Finish reports answer v given freed ok a (inr h) = idle_goes w reports answer v given freed a h
answer_goes w (Collect zones) reports answer v given freed ok a (inl h) =
    no_number given freed reports answer reply.Collected v h.0 tt refl
    (subst (λ (rs : List Report). IsAccounted v given (freed ++ freed_in rs)) (sym h.1.reports_are)
    (units_accounts h.1.begun h.1.units v given freed h.1.done
    (prepares_accounts w (zones_in zones) h.1.begun given freed h.1.begins a)))
answer_goes w (Collect zones) reports answer v given freed ok a (inr h) =
    refused_goes w (zones_in zones) reports answer v given freed a h
answer_goes w Reset reports answer v given freed ok a (inl h) =
    let swept = sweeps_goes w h.1.sweeps h.1.after given freed a h.1.swept in
    let over : IsAccounted v given ((freed ++ freed_in h.1.sweeps) ++ freed_in (h.1.final ∷ [])) =
    last_goes h.1.after h.1.final v given (freed ++ freed_in h.1.sweeps) swept h.1.ends in
    no_number given freed reports answer reply.ResetDone v h.0 tt refl
    (subst (λ (rs : List Report). IsAccounted v given (freed ++ freed_in rs)) (sym h.1.reports_are)
    (subst (λ (l : List Name). IsAccounted v given l)
    (append_assoc freed (freed_in h.1.sweeps) (freed_in (h.1.final ∷ []))
    ∙ ap (λ (l : List Name). freed ++ l) (sym (freed_append h.1.sweeps (h.1.final ∷ [])))) over))
answer_goes w Reset reports answer v given freed ok a (inr h) = idle_goes w reports answer v given freed a h
answer_goes w Colours reports answer v given freed ok a (inl h) =
    no_number given freed reports answer (reply.Gray h.0) v h.1 tt refl
    (silent_accounts v given freed reports h.4.silent (same_world w v given freed h.4.same a))
answer_goes w Colours reports answer v given freed ok a (inr h) =
    no_number given freed reports answer _ v h.0 tt refl
    (silent_accounts v given freed reports h.2.silent (same_world w v given freed h.2.same a))
answer_goes w Dump reports answer v given freed ok a (inl h) =
    no_number given freed reports answer (reply.Dump h.0) v h.1 tt refl
    (silent_accounts v given freed reports h.4.silent (same_world w v given freed h.4.same a))
answer_goes w Dump reports answer v given freed ok a (inr h) =
    no_number given freed reports answer _ v h.0 tt refl
    (silent_accounts v given freed reports h.2.silent (same_world w v given freed h.2.same a))
answer_goes w (Compact zone) reports answer v given freed ok a (inl h) =
    no_number given freed reports answer (reply.Compacted h.0 h.1) v h.2 tt refl
    (silent_accounts v given freed reports h.3 (compacts_accounts w zone h.0 h.1 v h.4 given freed a))
answer_goes w (Compact zone) reports answer v given freed ok a (inr h) =
    refused_goes w (zone ∷ []) reports answer v given freed a h

run_goes : (w : World) (cs : List Cmd) (answers : List (List Report × Reply)) (v : World) (given : ℕ)
    (freed : List Name) → IsValid w → IsAccounted w given freed → Run w cs answers v
    → GiveInOrder given answers × IsAccounted v (given_in given answers) (freed ++ freed_by answers)
run_goes w [] [] v given freed ok a h = (tt, same_world w v given (freed ++ []) h (tells_none w given freed a))
run_goes w (c ∷ cs) (one ∷ answers) v given freed ok a (u, first, rest) =
    let next = answer_goes w c one.0 one.1 u given freed ok a first in
    let more = run_goes u cs answers v (given_after given one.1) (freed ++ freed_in one.0)
    (answer_valid w c one.0 one.1 u ok first) next.1 rest in (
      (next.0, more.0),
      subst (λ (l : List Name). IsAccounted v (given_in (given_after given one.1) answers) l)
          (append_assoc freed (freed_in one.0) (freed_by answers)) more.1,
    )
run_goes w [] (one ∷ answers) v given freed ok a h = absurd h
run_goes w (c ∷ cs) [] v given freed ok a h = absurd h

pub numbers_in_run : (commands : List Cmd) (answers : List (List Report × Reply)) (w : World)
    → Run first_world commands answers w
    → GiveInOrder 0 answers × IsAccounted w (given_in 0 answers) (freed_by answers)
numbers_in_run commands answers w run =
    run_goes first_world commands answers w 0 [] first_valid first_accounts run
