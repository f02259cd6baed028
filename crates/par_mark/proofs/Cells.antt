-- The targets of a list of cells.
use Rattle.std.proofs.Common.{◌≡◌, ℕ, zero, suc, ◌+◌, ◌*◌, ◌<◌, ◌≤◌, List, [], ◌∷◌, ◌++◌, length, take, drop, get_or}
use Rattle.std.proofs.Common.{Option, Some, None, sym, refl, ap, ◌∙◌, arith, append_assoc, append-nil}
use Rattle.std.proofs.lemmas.List.{length-append, take_more, take-append-drop}
use Rattle.mark_words.specs.Sums.{weigh}
use Rattle.mark_words.proofs.Counts.{weigh-append}
use Rattle.mark_ahead.specs.Edges.{held, first_targets, targets, out}
use Rattle.par_mark.specs.Edges.{all_targets}

length-held : (o : Option (ℕ × ℕ)) → length (held o) ≤ 1
length-held None = omega arith
length-held (Some q) = omega arith

pub few_targets : (field : ℕ → Option (ℕ × ℕ)) (n : ℕ) → length (first_targets field n) ≤ n
few_targets field zero = omega arith
few_targets field (suc n) = let r = few_targets field n in
    let a = length-append (first_targets field n) (held (field n)) in let h = length-held (field n) in omega arith

module _ (edge : ℕ × ℕ → ℕ → Option (ℕ × ℕ)) where
  -- a cell has at most eight targets
  pub eight : (p : ℕ × ℕ) → length (targets edge p) ≤ 8
  eight p = few_targets (edge p) 8

  all_targets-append : (ps qs : List (ℕ × ℕ)) → all_targets edge (ps ++ qs) ≡ all_targets edge ps ++ all_targets edge qs
  all_targets-append [] qs = refl
  all_targets-append (p ∷ ps) qs = ap (λ (l : List (ℕ × ℕ)). targets edge p ++ l) (all_targets-append ps qs)
      ∙ sym (append_assoc (targets edge p) (all_targets edge ps) (all_targets edge qs))

  pub all_targets-snoc : (ps : List (ℕ × ℕ)) (p : ℕ × ℕ)
      → all_targets edge (ps ++ p ∷ []) ≡ all_targets edge ps ++ targets edge p
  all_targets-snoc ps p = all_targets-append ps (p ∷ [])
      ∙ ap (λ (l : List (ℕ × ℕ)). all_targets edge ps ++ l) (append-nil (targets edge p))

  pub length-all_targets : (ps : List (ℕ × ℕ)) → length (all_targets edge ps) ≤ 8 * length ps
  length-all_targets [] = omega arith
  length-all_targets (p ∷ ps) = let r = length-all_targets ps in
      let a = length-append (targets edge p) (all_targets edge ps) in let e = eight p in omega arith

  -- all targets weigh what the targets of each cell weigh
  pub weigh-all_targets : (h : ℕ × ℕ → ℕ) (ps : List (ℕ × ℕ)) → weigh h (all_targets edge ps) ≡ weigh (out edge h) ps
  weigh-all_targets h [] = refl
  weigh-all_targets h (p ∷ ps) = let a = weigh-append h (targets edge p) (all_targets edge ps) in
      let r = weigh-all_targets h ps in omega arith

  pub one_cell : (from : List (ℕ × ℕ)) (i : ℕ) (d : ℕ × ℕ) → i < length from
      → all_targets edge (take (i + 1) from) ≡ all_targets edge (take i from) ++ targets edge (get_or from i d)
  one_cell from i d lt = ap (all_targets edge) (take_more from i d lt)
      ∙ all_targets-snoc (take i from) (get_or from i d)

  -- there is room for one cell more where there is room for all
  pub one_room : (cells : List (ℕ × ℕ)) (i : ℕ) (d : ℕ × ℕ) → i < length cells
      → length (all_targets edge (take i cells)) + length (targets edge (get_or cells i d))
      ≤ length (all_targets edge cells)
  one_room cells i d lt =
      let l = ap length (one_cell cells i d lt) in
      let a = length-append (all_targets edge (take i cells)) (targets edge (get_or cells i d)) in
      let whole : all_targets edge cells
      ≡ all_targets edge (take (i + 1) cells) ++ all_targets edge (drop (i + 1) cells)
      = ap (all_targets edge) (sym (take-append-drop (i + 1) cells)) ∙ all_targets-append (take (i + 1) cells)
      (drop (i + 1) cells) in
      let w = ap length whole in
      let b = length-append (all_targets edge (take (i + 1) cells)) (all_targets edge (drop (i + 1) cells)) in
      omega arith
