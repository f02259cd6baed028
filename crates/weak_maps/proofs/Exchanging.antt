-- Places exchange their lists.
use Rattle.std.proofs.Common.{◌≡◌, ◌≢◌, ◌++◌, ◌∷◌, [], ℕ, Bool, true, false, cond, if◌then◌else◌, List, Option, Some}
use Rattle.std.proofs.Common.{refl, sym, ◌∙◌, ap, subst}
use Rattle.std.proofs.lemmas.Bool.{false≢true}
use Rattle.gz_names.specs.declared.moves.Move.{Move}
use Rattle.gz_names.specs.declared.numbers.Place.{Place}
use Rattle.weak_maps.specs.Heads.{HeadsState, head_of}
use Rattle.weak_maps.specs.Moving.{exchanged, other_of}
use Rattle.weak_maps.specs.Places.{is_same}
use Rattle.weak_maps.specs.Sides.{AreHeads}
use Rattle.weak_maps.proofs.Places.{is_same-true, is_same-self, is_same-false}

-- what one place had goes to the other
pub put_both : (h : Place → Option ℕ) (m : Move) (q : Place)
    → (if is_same m.to q then h m.from else if is_same m.from q then h m.to else h q) ≡ h (other_of m q)
put_both h m q = by (is_same m.to q) (is_same m.from q) refl refl
  where
    by : (a b : Bool) → is_same m.to q ≡ a → is_same m.from q ≡ b
        → cond a (h m.from) (cond b (h m.to) (h q)) ≡ h (cond b m.to (cond a m.from q))
    by true true e f = ap h (is_same-true m.from q f ∙ sym (is_same-true m.to q e))
    by true false e f = refl
    by false true e f = refl
    by false false e f = refl

-- where neither has one, nothing changes
pub put_none : (h : Place → Option ℕ) (m : Move) (q : Place) → h m.from ≡ h m.to → h q ≡ h (other_of m q)
put_none h m q same = by (is_same m.to q) (is_same m.from q) refl refl
  where
    by : (a b : Bool) → is_same m.to q ≡ a → is_same m.from q ≡ b → h q ≡ h (cond b m.to (cond a m.from q))
    by a true e f = ap h (sym (is_same-true m.from q f)) ∙ same
    by true false e f = ap h (sym (is_same-true m.to q e)) ∙ sym same
    by false false e f = refl

-- one move more
pub exchanged-push : (moves : List Move) (m : Move) (q : Place)
    → exchanged (moves ++ m ∷ []) q ≡ exchanged moves (other_of m q)
exchanged-push [] m q = refl
exchanged-push (n ∷ moves) m q = ap (other_of n) (exchanged-push moves m q)

-- the other place of a goal, and of a place that a move leaves, and of one that is neither
pub other-goal : (m : Move) → other_of m m.to ≡ m.from
other-goal m = by (is_same m.from m.to) refl
  where
    by : (b : Bool) → is_same m.from m.to ≡ b → cond b m.to (cond (is_same m.to m.to) m.from m.to) ≡ m.from
    by true e = sym (is_same-true m.from m.to e)
    by false e = ap (λ c. cond c m.from m.to) (is_same-self m.to)

other-left : (m : Move) → other_of m m.from ≡ m.to
other-left m = ap (λ c. cond c m.to (cond (is_same m.to m.from) m.from m.from)) (is_same-self m.from)

pub other-stays : (m : Move) (p : Place) → m.from ≢ p → m.to ≢ p → other_of m p ≡ p
other-stays m p left goal =
    ap (λ c. cond c m.to (cond (is_same m.to p) m.from p)) (is_same-false m.from p left)
    ∙ ap (λ c. cond c m.from p) (is_same-false m.to p goal)

-- an exchange undoes itself
twice : (m : Move) (p : Place) → other_of m (other_of m p) ≡ p
twice m p = by (is_same m.from p) (is_same m.to p) refl refl
  where
    by : (a b : Bool) → is_same m.from p ≡ a → is_same m.to p ≡ b → other_of m (cond a m.to (cond b m.from p)) ≡ p
    by true b e f = other-goal m ∙ is_same-true m.from p e
    by false true e f = other-left m ∙ is_same-true m.to p f
    by false false e f = ap (λ c. cond c m.to (cond (is_same m.to p) m.from p)) e ∙ ap (λ c. cond c m.from p) f

-- so two places come from different ones
pub exchanged-apart : (moves : List Move) (p q : Place) → exchanged moves p ≡ exchanged moves q → p ≡ q
exchanged-apart [] p q same = same
exchanged-apart (m ∷ moves) p q same =
    exchanged-apart moves p q (sym (twice m (exchanged moves p)) ∙ ap (other_of m) same ∙ twice m (exchanged moves q))

-- and the places have different lists after it
pub AreHeads-exchanged : (old new : HeadsState) (count : ℕ) (moves : List Move)
    → ((q : Place) → head_of new q ≡ head_of old (exchanged moves q)) → AreHeads old count → AreHeads new count
AreHeads-exchanged old new count moves are h = record {
  within = λ p j at. h.within (exchanged moves p) j (sym (are p) ∙ at);
  apart = λ p q j at there. exchanged-apart moves p q
      (h.apart (exchanged moves p) (exchanged moves q) j (sym (are p) ∙ at) (sym (are q) ∙ there));
}
