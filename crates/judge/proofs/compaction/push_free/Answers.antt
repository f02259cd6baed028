use Rattle.std.proofs.Common.{◌∙◌, ◌+◌, ◌-◌, ◌++◌, ◌∷◌, [], List, ap, append_assoc, arith, cond, is_some, sym}
use Rattle.std.specs.BTreeMap as tree
use Rattle.std.proofs.lemmas.List.{append-nil}
use Rattle.gz_names.specs.declared.numbers.Place.{Place}
use Rattle.judge.specs.Compaction.{free_slots}
use Rattle.judge.specs.Places.{place_order}
use Rattle.judge.proofs.Freed.{slots_first, slots_over}
use Rattle.judge.proofs.compaction.push_free.Goals as goal

pub loop-slot-preserved-then-contains_key : goal.loop-slot-preserved-then-contains_key
loop-slot-preserved-then-contains_key c =
    let taken = c.args.taken.now in
    let a = c.args.arena in
    let n = c.loop-slot.slot in
    let rest = free_slots taken a (n + 1) (64 - (n + 1)) in
    let held = ap (λ (p : Place). is_some (tree.get place_order taken p)) (sym c.in-Some.ensures.1)
    ∙ sym c.contains_key.ensures ∙ c.if-contains_key.true in
    ap (λ (ps : List Place). c.loop-slot.free.items ++ ps)
    (sym (slots_first taken a n c.in-Some.ensures.0 ∙ ap (λ b. cond b rest ((a, n) ∷ rest)) held))
    ∙ c.loop-slot.invariant

pub loop-slot-preserved : goal.loop-slot-preserved
loop-slot-preserved c =
    let taken = c.args.taken.now in
    let a = c.args.arena in
    let n = c.loop-slot.slot in
    let items = c.loop-slot.free.items in
    let rest = free_slots taken a (n + 1) (64 - (n + 1)) in
    let held = ap (λ (p : Place). is_some (tree.get place_order taken p)) (sym c.in-Some.ensures.1)
    ∙ sym c.contains_key.ensures ∙ c.if-contains_key.false in
    ap (λ (ps : List Place). ps ++ rest) c.in_ok-push.ensures.items
    ∙ append_assoc items (c.in-Some.place ∷ []) rest
    ∙ ap (λ (p : Place). items ++ p ∷ rest) c.in-Some.ensures.1
    ∙ ap (λ (ps : List Place). items ++ ps)
    (sym (slots_first taken a n c.in-Some.ensures.0 ∙ ap (λ b. cond b rest ((a, n) ∷ rest)) held))
    ∙ c.loop-slot.invariant

pub returns : goal.returns
returns c =
    sym (append-nil c.loop-slot.free.items)
    ∙ ap (λ (ps : List Place). c.loop-slot.free.items ++ ps)
    (sym (slots_over c.args.taken.now c.args.arena c.loop-slot.slot (omega arith)))
    ∙ c.loop-slot.invariant
