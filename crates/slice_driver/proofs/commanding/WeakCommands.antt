-- Commands that fill a weak slot, and that watch a cell or watch it no longer.
use Rattle.std.proofs.Common.{◌≡◌, ℕ, Bool, true, false, if◌then◌else◌, Option, Some, None, Result, Ok, Err}
use Rattle.std.proofs.Common.{List, refl, sym, ap, subst, ◌∙◌, arith, slice_index_or, slice_set}
use Rattle.std.specs.FinSet as set
use Rattle.gz_names.specs.declared.names.Name.{Name}
use Rattle.gz_names.specs.declared.numbers.Place.{Place}
use Rattle.gz_names.specs.declared.commands.WeakCmd.{WeakCmd}
use Rattle.gz_names.specs.declared.commands.WeakCmd.TheVariants as cmd
use Rattle.gz_names.specs.declared.replies.CmdFault.{CmdFault}
use Rattle.gz_names.specs.declared.replies.CmdFault.TheVariants as fault
use Rattle.gz_names.specs.declared.replies.Refusal.{Refusal}
use Rattle.gz_names.specs.declared.replies.Refusal.TheVariants as refusal
use Rattle.gz_names.specs.declared.replies.Reply.{Reply}
use Rattle.gz_names.specs.declared.replies.Reply.TheVariants as reply
use Rattle.cell_bits.specs.declared.bits.Bits.{Bits}
use Rattle.weak_refs.specs.WeakNames as names
use Rattle.weak_refs.specs.WeakNames.{WeakNamesState}
use Rattle.colour_defs.specs.Graph.{register_cell}
use Rattle.colour_defs.specs.Laws.{IsValid}
use Rattle.colour_defs.specs.Step.{refusal_in}
use Rattle.colour_defs.specs.WeakRefs as worlds
use Rattle.colour_defs.specs.WeakRefs.{WeakInWorld, unwatch_cell, watch_cell}
use Rattle.colour_defs.specs.World.{World}
use Rattle.colour_defs.proofs.ValidWeak.{weak_valid}
use Rattle.heap_core.specs.Shape.{IsPresent, held_name, name_at}
use Rattle.heap_core.specs.Heap.{HeapState, reg_of}
use Rattle.heap_core.specs.WeakNames.{Unwatches, Watches, is_watched}
use Rattle.heap_core.proofs.Shown.{reg_present, reg_shown}
use Rattle.marker.specs.UnitsToCome.{units_at}
use Rattle.slice_driver.specs.Collector.{CollectorState}
use Rattle.slice_driver.specs.Represents.{Represents}
use Rattle.slice_driver.specs.Units.{IsSound}
use Rattle.slice_driver.specs.UnitsToCome.{units_to_come}
use Rattle.slice_driver.specs.WeakCommands.{DoesWeak, WantsWeakMemory, WeakCommandDone}
use Rattle.slice_driver.specs.Worlds.{LiesIn}
use Rattle.slice_driver.proofs.abstraction.Named.{name_of}
use Rattle.slice_driver.proofs.abstraction.Renaming.{lies_of, naming, represents_named}
use Rattle.slice_driver.proofs.commanding.WeakNames.{names_unwatch, names_unwatched, names_watch, names_weaken}
use Rattle.slice_driver.proofs.commanding.WeakNames.{watched_same}

-- what is named weakly does not tell how much is to come
to_come_named : (c : CollectorState) (ns : WeakNamesState) (flown : ℕ → Option Bits)
    → units_to_come (naming c ns) flown ≡ units_to_come c flown
unfolding units_to_come units_at
to_come_named c ns flown = refl

-- what a register holds, by names and by places
held_in : (h : HeapState) (w : World) (l : LiesIn h w) (r : ℕ)
    → register_cell w.graph r ≡ held_name h.shape (reg_of h r)
held_in h w l r = ap (λ (rs : List (Option Name)). slice_index_or rs r None) (sym l.part.part.registers)
    ∙ reg_shown h l.graph r l.shown

-- what they do in the worlds that a collector stands for
module _ (old : CollectorState) (flown : ℕ → Option Bits) where
  abbrev h : HeapState
  h = old.heap

  -- a weak slot names what a register holds
  does_weaken : (q r : ℕ) → DoesWeak old flown (cmd.Weaken q r) (Ok reply.Accepted)
      (naming old (names.with_slot h.weak_names q (reg_of h r))) flown
  does_weaken q r w ok rep =
      let l : LiesIn h w = lies_of old flown w rep in (
        worlds.with_weak_slot w q (register_cell w.graph r),
        (refl, refl),
        subst (λ (o : Option Name). Represents (naming old (names.with_slot h.weak_names q (reg_of h r))) flown
            (worlds.with_weak_slot w q o)) (sym (held_in h w l r))
            (represents_named old (names.with_slot h.weak_names q (reg_of h r)) flown w
            (record w.weak { slots = slice_set w.weak.slots q (held_name h.shape (reg_of h r)) })
            (names_weaken h.shape h.weak_names w.weak l.weak_are q (reg_of h r)
            (λ p e. reg_present h l.graph r p l.shown e)) rep),
      )

  -- a register holds nothing
  none_held : (r : ℕ) → reg_of h r ≡ None → (w : World) → Represents old flown w → register_cell w.graph r ≡ None
  none_held r none w rep = held_in h w (lies_of old flown w rep) r ∙ ap (held_name h.shape) none

  -- or a cell, under its name
  module _ (r : ℕ) (p : Place) (holds : reg_of h r ≡ Some p) (w : World) (rep : Represents old flown w) where
    abbrev l : LiesIn h w
    l = lies_of old flown w rep

    there : IsPresent h.shape p
    there = reg_present h l.graph r p l.shown holds

    held_as : (y : Name) × (name_at h.shape p ≡ Some y)
    held_as = name_of h.shape p there

    cell : register_cell w.graph r ≡ Some held_as.0
    cell = held_in h w l r ∙ (ap (held_name h.shape) holds ∙ held_as.1)

    watched_is : is_watched h p ≡ set.contains w.weak.watched held_as.0
    watched_is = watched_same h.shape h.weak_names w.weak l.weak_are p held_as.0 there held_as.1 l.shown.apart

    abbrev watching : CollectorState
    watching = naming old (names.with_watched h.weak_names p)

    abbrev not_watching : CollectorState
    not_watching = naming old (names.without_watched h.weak_names p)

    watch_does : (v : World) × WeakInWorld w (cmd.Watch r) reply.Accepted v × Represents watching flown v
    watch_does = (
      worlds.with_watched w held_as.0,
      (
        sym (ap (λ (o : Option Name). (watch_cell w o).1) cell),
        sym (ap (λ (o : Option Name). (watch_cell w o).0) cell),
      ),
      represents_named old (names.with_watched h.weak_names p) flown w
          (record w.weak { watched = set.insert w.weak.watched held_as.0 })
          (names_watch h.shape h.weak_names w.weak l.weak_are p held_as.0 there held_as.1 l.shown.apart) rep,
    )

    -- whether it was watched
    told_in : (b : Bool) → is_watched h p ≡ b → unwatch_cell w (register_cell w.graph r)
        ≡ (if b then (worlds.without_watched w held_as.0, reply.Accepted) else (w, reply.Absent))
    told_in b is = ap (unwatch_cell w) cell
        ∙ ap (λ (t : Bool). if t then (worlds.without_watched w held_as.0, reply.Accepted) else (w, reply.Absent))
        (sym watched_is ∙ is)

    unwatch_does : is_watched h p ≡ true
        → (v : World) × WeakInWorld w (cmd.Unwatch r) reply.Accepted v × Represents not_watching flown v
    unwatch_does was = (
      worlds.without_watched w held_as.0,
      (
        sym (ap (λ (t : World × Reply). t.1) (told_in true was)),
        sym (ap (λ (t : World × Reply). t.0) (told_in true was)),
      ),
      represents_named old (names.without_watched h.weak_names p) flown w
          (record w.weak { watched = set.remove w.weak.watched held_as.0 })
          (names_unwatch h.shape h.weak_names w.weak l.weak_are p held_as.0 there held_as.1 l.shown.apart was) rep,
    )

    absent_does : is_watched h p ≡ false
        → (v : World) × WeakInWorld w (cmd.Unwatch r) reply.Absent v × Represents not_watching flown v
    absent_does none = (
      w,
      (
        sym (ap (λ (t : World × Reply). t.1) (told_in false none)),
        sym (ap (λ (t : World × Reply). t.0) (told_in false none)),
      ),
      represents_named old (names.without_watched h.weak_names p) flown w w.weak
          (names_unwatched h.shape h.weak_names w.weak l.weak_are p held_as.0 there held_as.1 l.shown.apart none) rep,
    )

-- and as its calls promise them
module _ {S O : Type 0} (bits_of : S → ℕ → Option Bits) (origin_of : S → O) (old : CollectorState) (f : S)
    (sound : IsSound old (bits_of f)) where
  -- a command has its answer, and names alone changed
  named_done : (c : WeakCmd) (answer : Reply) (ns : WeakNamesState)
      → DoesWeak old (bits_of f) c (Ok answer) (naming old ns) (bits_of f) → refusal_in answer ≡ None
      → WeakCommandDone bits_of origin_of old f c (Ok answer) (naming old ns) f
  named_done c answer ns does accepted = record {
    done = does;
    to_come = (let same = to_come_named old ns (bits_of f) in omega (arith, same));
    answered = accepted;
    refused = λ why e. absurd (cc e);
    wanted = λ e. absurd (cc e);
    sound = (let after = does sound.world sound.valid sound.represents in
        record {
          world = after.0;
          valid = weak_valid sound.world after.0 c answer sound.valid after.1;
          represents = after.2;
        });
    words = λ a freed is. is;
    run = refl;
    origin = refl;
    made = refl;
    ledger = refl;
    weak = refl;
  }

  -- it failed, and nothing changed
  failed_done : (c : WeakCmd) (why : CmdFault) → DoesWeak old (bits_of f) c (Err why) old (bits_of f)
      → (why ≡ fault.NoMemory → WantsWeakMemory old (bits_of f) c old (bits_of f))
      → WeakCommandDone bits_of origin_of old f c (Err why) old f
  failed_done c why does wants = record {
    done = does;
    to_come = omega arith;
    answered = tt;
    refused = λ other e. (refl, refl);
    wanted = λ e. wants (cc e);
    sound = sound;
    words = λ a freed is. is;
    run = refl;
    origin = refl;
    made = refl;
    ledger = refl;
    weak = refl;
  }

  refused_done : (c : WeakCmd) (why : Refusal)
      → ((w : World) → IsValid w → Represents old (bits_of f) w → WeakInWorld w c (reply.Refused why) w)
      → WeakCommandDone bits_of origin_of old f c (Err (fault.Refused why)) old f
  refused_done c why in_world =
      failed_done c (fault.Refused why) (λ w ok rep. (in_world w ok rep, rep)) (λ e. absurd (cc e))

  wanted_done : (c : WeakCmd) → WantsWeakMemory old (bits_of f) c old (bits_of f)
      → WeakCommandDone bits_of origin_of old f c (Err fault.NoMemory) old f
  wanted_done c wants = failed_done c fault.NoMemory (λ w ok rep. rep) (λ e. wants)

  pub weaken_done : (q r : ℕ) → WeakCommandDone bits_of origin_of old f (cmd.Weaken q r) (Ok reply.Accepted)
      (naming old (names.with_slot old.heap.weak_names q (reg_of old.heap r))) f
  weaken_done q r = named_done (cmd.Weaken q r) reply.Accepted
      (names.with_slot old.heap.weak_names q (reg_of old.heap r))
      (does_weaken old (bits_of f) q r) refl

  -- the heap alone is another
  abbrev with_heap : HeapState → CollectorState
  with_heap k = record old { heap = k }

  watch_answered : (r : ℕ) (p : Place) → reg_of old.heap r ≡ Some p → (result : Result Reply CmdFault) (k : HeapState)
      → Watches old.heap (Some p) result k
      → WeakCommandDone bits_of origin_of old f (cmd.Watch r) result (with_heap k) f
  watch_answered r p holds (Ok answer) k by =
      subst (λ (a : Reply). WeakCommandDone bits_of origin_of old f (cmd.Watch r) (Ok a) (with_heap k) f) (sym by.0)
      (subst (λ (j : HeapState). WeakCommandDone bits_of origin_of old f (cmd.Watch r) (Ok reply.Accepted)
      (with_heap j) f) (sym by.1)
      (named_done (cmd.Watch r) reply.Accepted (names.with_watched old.heap.weak_names p)
      (λ w ok rep. watch_does old (bits_of f) r p holds w rep) refl))
  watch_answered r p holds (Err why) k by =
      subst (λ (y : CmdFault). WeakCommandDone bits_of origin_of old f (cmd.Watch r) (Err y) (with_heap k) f)
      (sym by.0)
      (subst (λ (j : HeapState). WeakCommandDone bits_of origin_of old f (cmd.Watch r) (Err fault.NoMemory)
      (with_heap j) f) (sym by.1)
      (wanted_done (cmd.Watch r) (record {
        same = refl;
        flying_is = refl;
        watches = λ w ok rep. (
          (held_as old (bits_of f) r p holds w rep).0,
          cell old (bits_of f) r p holds w rep,
          λ has. (let is = watched_is old (bits_of f) r p holds w rep in let none = by.2 in cc (has, is, none)),
        );
      })))

  -- what a register holds is watched from now on
  pub watch_done : (r : ℕ) (result : Result Reply CmdFault) (k : HeapState)
      → Watches old.heap (reg_of old.heap r) result k
      → WeakCommandDone bits_of origin_of old f (cmd.Watch r) result (with_heap k) f
  watch_done r result k by = go (reg_of old.heap r) refl by
    where
      go : (o : Option Place) → reg_of old.heap r ≡ o → Watches old.heap o result k
          → WeakCommandDone bits_of origin_of old f (cmd.Watch r) result (with_heap k) f
      go None e by =
          subst (λ (a : Result Reply CmdFault). WeakCommandDone bits_of origin_of old f (cmd.Watch r) a (with_heap k)
          f) (sym by.0)
          (subst (λ (j : HeapState). WeakCommandDone bits_of origin_of old f (cmd.Watch r)
          (Err (fault.Refused refusal.Empty)) (with_heap j) f) (sym by.1)
          (refused_done (cmd.Watch r) refusal.Empty (λ w ok rep. (
            sym (ap (λ (o : Option Name). (watch_cell w o).1) (none_held old (bits_of f) r e w rep)),
            sym (ap (λ (o : Option Name). (watch_cell w o).0) (none_held old (bits_of f) r e w rep)),
          ))))
      go (Some p) e by = watch_answered r p e result k by

  -- and is watched no longer
  pub unwatch_done : (r : ℕ) (result : Result Reply CmdFault) (k : HeapState)
      → Unwatches old.heap (reg_of old.heap r) result k
      → WeakCommandDone bits_of origin_of old f (cmd.Unwatch r) result (with_heap k) f
  unwatch_done r result k by = go (reg_of old.heap r) refl by
    where
      known : (p : Place) → reg_of old.heap r ≡ Some p → (b : Bool) → is_watched old.heap p ≡ b
          → WeakCommandDone bits_of origin_of old f (cmd.Unwatch r)
          (Ok (if b then reply.Accepted else reply.Absent)) (naming old (names.without_watched old.heap.weak_names p)) f
      known p e true was = named_done (cmd.Unwatch r) reply.Accepted (names.without_watched old.heap.weak_names p)
          (λ w ok rep. unwatch_does old (bits_of f) r p e w rep was) refl
      known p e false none = named_done (cmd.Unwatch r) reply.Absent (names.without_watched old.heap.weak_names p)
          (λ w ok rep. absent_does old (bits_of f) r p e w rep none) refl

      go : (o : Option Place) → reg_of old.heap r ≡ o → Unwatches old.heap o result k
          → WeakCommandDone bits_of origin_of old f (cmd.Unwatch r) result (with_heap k) f
      go None e by =
          subst (λ (a : Result Reply CmdFault). WeakCommandDone bits_of origin_of old f (cmd.Unwatch r) a (with_heap k)
          f) (sym by.0)
          (subst (λ (j : HeapState). WeakCommandDone bits_of origin_of old f (cmd.Unwatch r)
          (Err (fault.Refused refusal.Empty)) (with_heap j) f) (sym by.1)
          (refused_done (cmd.Unwatch r) refusal.Empty (λ w ok rep. (
            sym (ap (λ (o : Option Name). (unwatch_cell w o).1) (none_held old (bits_of f) r e w rep)),
            sym (ap (λ (o : Option Name). (unwatch_cell w o).0) (none_held old (bits_of f) r e w rep)),
          ))))
      go (Some p) e by =
          subst (λ (a : Result Reply CmdFault). WeakCommandDone bits_of origin_of old f (cmd.Unwatch r) a (with_heap k)
          f) (sym by.0)
          (subst (λ (j : HeapState). WeakCommandDone bits_of origin_of old f (cmd.Unwatch r)
          (Ok (if is_watched old.heap p then reply.Accepted else reply.Absent)) (with_heap j) f) (sym by.1)
          (known p e (is_watched old.heap p) refl))
