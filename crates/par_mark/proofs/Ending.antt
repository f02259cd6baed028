-- What the words tell when marking has ended.
use Rattle.std.proofs.Common.{◌≡◌, ℕ, ◌+◌, ◌<◌, inl, inr, ⊎_elim, Bool, true, false, List, length, Option, ap, ◌∙◌}
use Rattle.std.proofs.Common.{arith, refl, sym, All, Contains}
use Rattle.std.proofs.lemmas.List.Elements.{All-contains, All-contains_itself, All-weaker}
use Rattle.mark_words.specs.declared.view.MarkView.{MarkView}
use Rattle.mark_words.specs.Sums.{weigh, only, times}
use Rattle.mark_words.specs.Rule.{bit_of}
use Rattle.mark_ahead.specs.Edges.{out}
use Rattle.mark_ahead.specs.Blackening.{Reached, HasBlackened, HasFound}
use Rattle.par_mark.specs.Marking.{HasMarked}
use Rattle.par_mark.specs.Turned.{AreWords, turned_places}
use Rattle.par_mark.proofs.Listed.{listed_by_weight, same_weight}
use Rattle.par_mark.proofs.TurnedCells.{turned_won}
use Rattle.mark_ahead.proofs.Members.{in_times, times_in}

module _ (edge : ℕ × ℕ → ℕ → Option (ℕ × ℕ)) (marking : ℕ × ℕ → Bool) (first : List ℕ) (from : List (ℕ × ℕ)) where
  -- marking has ended with these words and these cells outside
  pub record HasEnded (last : List ℕ) (outside : List (ℕ × ℕ)) : Type 0 where
    pub view : MarkView
    pub inside : (q : ℕ × ℕ) → Reached edge marking first from q → q.0 < length first
    pub marked : HasMarked edge marking first from outside view
    pub sized : length last ≡ length first
    pub bits : (p : ℕ × ℕ) → p.0 < length first → bit_of last p ≡ bit_of first p + times p view.won

  -- these cells were read from the words
  pub record AreRead (last : List ℕ) (cells : List (ℕ × ℕ)) : Type 0 where
    pub are_words : AreWords first (length first) × AreWords last (length first)
    pub cells_are : cells ≡ turned_places first last (length first)

  -- a cell that was won is reached
  won_reached : (last : List ℕ) (outside : List (ℕ × ℕ)) (e : HasEnded last outside) (q : ℕ × ℕ)
      → Contains e.view.won q → Reached edge marking first from q
  won_reached last outside e q c =
      let white = All-contains (λ (p : ℕ × ℕ). bit_of first p ≡ 0) e.view.won q e.marked.fresh c in
      let some' = in_times e.view.won q c in
      let once = e.marked.once q in
      ⊎_elim (λ on. absurd (omega arith)) (λ r. r) ((e.marked.black q).0 (omega arith))

  -- each cell stands among those that were read as often as among those that were won
  read_won : (last : List ℕ) (cells outside : List (ℕ × ℕ)) (e : HasEnded last outside) → AreRead last cells
      → (q : ℕ × ℕ) → times q cells ≡ times q e.view.won
  read_won last cells outside e read q = ap (times q) read.cells_are
      ∙ turned_won first last (length first) e.view.won read.are_words.0 read.are_words.1 within e.bits q
    where
      within : All (λ q. q.0 < length first) e.view.won
      within = All-weaker (Contains e.view.won) (λ (q : ℕ × ℕ). q.0 < length first)
          (λ q c. e.inside q (won_reached last outside e q c)) e.view.won (All-contains_itself e.view.won)

  -- cells of which each stands in the list as often as it was won
  ended : (last : List ℕ) (cells outside : List (ℕ × ℕ)) (e : HasEnded last outside)
      → ((q : ℕ × ℕ) → times q cells ≡ times q e.view.won)
      → HasBlackened edge marking first from last cells outside
  ended last cells outside e same = record {
    sized = e.sized;
    black = λ q lt. (
      (λ on. (e.marked.black q).0 (sym (e.bits q lt) ∙ on)),
      (λ r. e.bits q lt ∙ (e.marked.black q).1 r),
    );
    turned = λ q lt. (let b = e.bits q lt in let s = same q in omega arith);
    reached = λ q c. won_reached last outside e q (there q c);
    inside = listed_by_weight (λ (q : ℕ × ℕ). marking q ≡ true) cells e.view.won
        (λ h. let w = weighs h in omega arith) e.marked.inside;
    outside_is = λ q. (
      (λ c. let o = (e.marked.outside_is q).0 c in
          (o.0, (o.1.0, ⊎_elim (λ f. inl f) (λ w. inr (here o.1.0 w)) o.1.1, o.1.2))),
      (λ o. (e.marked.outside_is q).1
          (o.0, (o.1.0, ⊎_elim (λ f. inl f) (λ c. inr (there o.1.0 c)) o.1.1, o.1.2))),
    );
    outside_times = λ q m. (let o = e.marked.outside_times q m in let w = weighs (out edge (only q)) in omega arith);
  }
    where
      weighs : (h : ℕ × ℕ → ℕ) → weigh h cells ≡ weigh h e.view.won
      weighs = same_weight cells e.view.won same

      there : (q : ℕ × ℕ) → Contains cells q → Contains e.view.won q
      there q c = times_in e.view.won q (let t = in_times cells q c in let s = same q in omega arith)

      here : (q : ℕ × ℕ) → Contains e.view.won q → Contains cells q
      here q c = times_in cells q (let t = in_times e.view.won q c in let s = same q in omega arith)

  -- where the cells are to be listed, they were read from the words
  pub found : (last : List ℕ) (cells outside : List (ℕ × ℕ)) → HasEnded last outside → (lists : Bool)
      → (lists ≡ true → AreRead last cells)
      → HasFound edge marking first from (lists ≡ true) last cells outside
  found last cells outside e true read = record {
    won = cells;
    blackened = ended last cells outside e (read_won last cells outside e (read refl));
    listed_won = λ _. refl;
  }
  found last cells outside e false read = record {
    won = e.view.won;
    blackened = ended last e.view.won outside e (λ q. refl);
    listed_won = λ listed. cc listed;
  }
