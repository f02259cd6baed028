-- What turns add to lists.
use Rattle.std.proofs.Common.{◌≡◌, ℕ, List, [], ◌∷◌, ◌++◌, sym, refl, ap, ◌∙◌, arith, append_assoc, append-nil}
use Rattle.mark_words.specs.declared.view.MarkLog.{MarkLog}
use Rattle.mark_words.specs.declared.view.MarkView.{MarkView}
use Rattle.mark_words.specs.Views.{logs_with}
use Rattle.mark_words.proofs.Counts.{weigh-append}
use Rattle.par_mark.specs.declared.donations.Moves.{Moves}
use Rattle.par_mark.specs.declared.donations.QueueView.{QueueView}
use Rattle.par_mark.specs.Donations.{moves_with}
use Rattle.par_mark.specs.Tries.{HasGrown}

-- logs to which nothing was added, and to which was added twice
pub logs_none : (ls : List MarkLog) → ls ≡ logs_with [] [] ls
logs_none [] = refl
logs_none (l ∷ ls) = λ i. record { won = sym (append-nil l.won) i; tried = sym (append-nil l.tried) i } ∷ ls

pub logs_more : (ls : List MarkLog) (a b c d : List (ℕ × ℕ))
    → logs_with c d (logs_with a b ls) ≡ logs_with (a ++ c) (b ++ d) ls
logs_more [] a b c d = refl
logs_more (l ∷ ls) a b c d =
    λ i. record { won = append_assoc l.won a c i; tried = append_assoc l.tried b d i } ∷ ls

pub moves_none : (ms : List Moves) → ms ≡ moves_with [] [] ms
moves_none [] = refl
moves_none (m ∷ ms) = λ i. record { given = sym (append-nil m.given) i; taken = sym (append-nil m.taken) i } ∷ ms

pub moves_more : (ms : List Moves) (a b : List (ℕ × ℕ))
    → moves_with [] b (moves_with [] a ms) ≡ moves_with [] (a ++ b) ms
moves_more [] a b = refl
moves_more (m ∷ ms) a b =
    λ i. record { given = append-nil (m.given ++ []) i; taken = append_assoc m.taken a b i } ∷ ms

abbrev pub grown_none : (outside : List (ℕ × ℕ)) (v : MarkView) (d : QueueView) → HasGrown outside v d outside v d
grown_none outside v d = record {
  won = [];
  tried = [];
  taken = [];
  beyond = [];
  won_is = sym (append-nil v.won);
  tried_is = sym (append-nil v.known);
  taken_is = sym (append-nil d.taken);
  beyond_is = sym (append-nil outside);
  put_is = refl;
  logs_are = logs_none v.logs;
  moves_are = moves_none d.moves;
  won_tried = λ h. omega arith;
}

abbrev pub grown_more : (o p q : List (ℕ × ℕ)) (u v w : MarkView) (c d e : QueueView) → HasGrown o u c p v d
    → HasGrown p v d q w e → HasGrown o u c q w e
grown_more o p q u v w c d e a b = record {
  won = a.won ++ b.won;
  tried = a.tried ++ b.tried;
  taken = a.taken ++ b.taken;
  beyond = a.beyond ++ b.beyond;
  won_is = b.won_is ∙ ap (λ (l : List (ℕ × ℕ)). l ++ b.won) a.won_is ∙ append_assoc u.won a.won b.won;
  tried_is = b.tried_is ∙ ap (λ (l : List (ℕ × ℕ)). l ++ b.tried) a.tried_is
      ∙ append_assoc u.known a.tried b.tried;
  taken_is = b.taken_is ∙ ap (λ (l : List (ℕ × ℕ)). l ++ b.taken) a.taken_is
      ∙ append_assoc c.taken a.taken b.taken;
  beyond_is = b.beyond_is ∙ ap (λ (l : List (ℕ × ℕ)). l ++ b.beyond) a.beyond_is
      ∙ append_assoc o a.beyond b.beyond;
  put_is = b.put_is ∙ a.put_is;
  logs_are = b.logs_are ∙ ap (logs_with b.won b.tried) a.logs_are ∙ logs_more u.logs a.won a.tried b.won b.tried;
  moves_are = b.moves_are ∙ ap (moves_with [] b.taken) a.moves_are ∙ moves_more c.moves a.taken b.taken;
  won_tried = λ h. let x = a.won_tried h in let y = b.won_tried h in let s = weigh-append h a.won b.won in
      let t = weigh-append h a.tried b.tried in omega arith;
}
