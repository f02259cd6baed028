use Rattle.std.proofs.Common.{ℕ, ◌≡◌, ◌<◌, Bool, true, List, All, None, IfOk, Result, Vec, arith, length, nat_lt}
use Rattle.std.proofs.Common.{subst, sym}
use Rattle.std.specs.declared.alloc.Global.{Global}
use Rattle.std.proofs.lemmas.Bool.{le-ltb, lt-ltb}
use Rattle.std.proofs.lemmas.List.Elements.{All-weaker}
use Rattle.std.proofs.lemmas.Result.{IfOk-weaker}
use denote.Param.Send.{sendable}
use denote.Param.SendFields.{declared_sync}
use Rattle.std.proofs.Crossing.{crosses}
use Rattle.gz_names.specs.declared.numbers.Place.{Place}
use Rattle.heap_core.specs.Heap.{HeapState}
use Rattle.heap_core.specs.Shape.{IsPresent, field_at, is_marking}
use Rattle.mark_ahead.specs.Blackening.{HasFound}
use Rattle.mark_ahead.specs.Edges.{Leads}
use Rattle.mark_ahead.specs.Markers.{HasFoundIn}
use Rattle.mark_ahead.specs.declared.blackening.Marked.{Marked}
use Rattle.par_mark.specs.Heaps.{HasCell}
use Rattle.par_mark.proofs.HeapCells.{inside, leads_on}
use Rattle.par_mark.proofs.HeapSync.{heap_sync}
use Rattle.par_mark.proofs.over_heap.mark_heap.Goals as goal

pub mark_black-requires-clause-uncounted : goal.mark_black-requires-clause-uncounted
mark_black-requires-clause-uncounted g c κs within =
    subst (λ (h : HeapState). h.ledger ≡ None) (sym c.in_ok-marked.ensures) c.requires.uncounted

pub mark_black-requires-clause-present : goal.mark_black-requires-clause-present
mark_black-requires-clause-present g c κs within =
    subst (λ (h : HeapState). All (HasCell h) c.args.from.now) (sym c.in_ok-marked.ensures)
    (All-weaker (IsPresent c.args.heap.now.shape) (HasCell c.args.heap.now) (λ p x. record {
      present = x;
      zone = c.requires.made p x;
      whole = c.requires.whole;
      uncounted = c.requires.uncounted;
    }) c.args.from.now c.requires.present)

pub mark_black-requires-clause-targets : goal.mark_black-requires-clause-targets
mark_black-requires-clause-targets g c κs within =
    subst (λ (h : HeapState). (p q : ℕ × ℕ) → HasCell h p → Leads (field_at h.shape) p q → HasCell h q)
    (sym c.in_ok-marked.ensures)
    (λ p q h l. leads_on c.args.heap.now c.requires.made c.requires.targets p q h l)

pub mark_black-requires-clause-words : goal.mark_black-requires-clause-words
mark_black-requires-clause-words g c κs within =
    subst (λ (h : HeapState). (p : ℕ × ℕ) → HasCell h p → p.0 < length c.args.words.items)
    (sym c.in_ok-marked.ensures)
    (λ p h. subst (λ (n : ℕ). p.0 < n) (sym c.requires.words) (inside c.args.heap.now p h).0)

pub mark_black-requires-sync-H : goal.mark_black-requires-sync-H
mark_black-requires-sync-H g c κs within = search (crosses, declared_sync, heap_sync, sendable) depth 20

-- the cells are listed where the heap has weak entries
listed_in : {E : Type 0} (h : HeapState) (first : List ℕ) (from : List Place)
    (result : Result (Vec ℕ Global × Marked) E) (lists : Bool) → (0 < length h.shape.weak.entries → lists ≡ true)
    → IfOk result (λ r. HasFound (field_at h.shape) (is_marking h.shape) first from (lists ≡ true) r.0.items
    r.1.won.items r.1.outside.items)
    → IfOk result (λ r. HasFoundIn h first from r.0.items r.1)
listed_in h first from result lists some found = IfOk-weaker result
    (λ r. HasFound (field_at h.shape) (is_marking h.shape) first from (lists ≡ true) r.0.items r.1.won.items
    r.1.outside.items)
    (λ r. HasFoundIn h first from r.0.items r.1)
    (λ r f. record {
      won = f.won;
      blackened = f.blackened;
      listed_won = λ entries. f.listed_won (some entries);
    }) found

pub returns-clause-found : goal.returns-clause-found
returns-clause-found g c =
    let count = c.entries.ensures.count in
    listed_in c.args.heap.now c.args.words.items c.args.from.now c.mark_black.result _
    (λ some. lt-ltb 0 c.entries.result (omega (arith, some, count)))
    (subst (λ (h : HeapState). IfOk c.mark_black.result (λ r. HasFound (field_at h.shape) (is_marking h.shape)
    c.args.words.items c.args.from.now (nat_lt 0 c.entries.result ≡ true) r.0.items r.1.won.items r.1.outside.items))
    c.in_ok-marked.ensures c.mark_black.ensures.found)

pub returns-clause-unlisted : goal.returns-clause-unlisted
returns-clause-unlisted g c = λ none. c.mark_black.ensures.unlisted
    (le-ltb 0 c.entries.result (omega (arith, none, c.entries.ensures.count)))
