-- The shares of the two callers and of main.
use Rattle.std.proofs.Common.{◌≡◌, ℕ, ◌+◌, Bool, List, [], ◌∷◌, ◌++◌, Option, refl, ap, ◌∙◌, arith}
use Rattle.crossbeam_queue.specs.Passes.{view}
use Rattle.mark_words.specs.declared.view.MarkView.{MarkView}
use Rattle.mark_words.specs.Views.{logs_with, new_log}
use Rattle.mark_words.specs.Seats.{view_of}
use Rattle.mark_words.specs.Sums.{weigh, whole}
use Rattle.mark_words.proofs.Counts.{weigh-append}
use Rattle.par_mark.specs.declared.donations.QueueView.{QueueView}
use Rattle.par_mark.specs.declared.caller.Caller.{Caller}
use Rattle.par_mark.specs.Accounts.{Accounts}
use Rattle.par_mark.specs.Donations.{Total, moves_with, new_moves}
use Rattle.mark_ahead.specs.Edges.{out}
use Rattle.par_mark.specs.Lists.{tries_of, outside_of}
use Rattle.par_mark.specs.Callers.{HasRun, own_log, own_moves}
use Rattle.par_mark.specs.Shares.{Share, ScansItsOwn, AreShared}
use Rattle.par_mark.specs.Tries.{HasGrown}

module _ (edge : ℕ × ℕ → ℕ → Option (ℕ × ℕ)) (marking : ℕ × ℕ → Bool) (P : ℕ × ℕ → Type 0) where
  -- a caller's share, by what it began with and what it ended with
  abbrev share_of : Caller → Caller → Share
  share_of m one = record {
    firsts = tries_of m.lists;
    left = tries_of one.lists;
    log = own_log (view_of one.seat);
    moves = own_moves (view one.pass);
    outside = outside_of one.lists;
  }

  scans : (m one : Caller) → HasRun edge marking P m one → ScansItsOwn edge (share_of m one)
  scans m one r = record {
    scanned = λ h. let b = r.accounts.balance h in omega arith;
    won_tried = r.accounts.won_known;
  }

  -- main's share, by what stood in its lists as it began to try and what was added
  abbrev main_share : (tries won tried taken beyond : List (ℕ × ℕ)) → Share
  main_share tries won tried taken beyond = record {
    firsts = tries;
    left = [];
    log = record { won = won; tried = tried };
    moves = record { given = []; taken = taken };
    outside = beyond;
  }

  main_scans : (firsts tries o o' : List (ℕ × ℕ)) (v v' : MarkView) (d d' : QueueView) → (g : HasGrown o v d o' v' d')
      → Accounts edge marking P firsts [] [] tries o v d → Accounts edge marking P firsts [] [] [] o' v' d'
      → ScansItsOwn edge (main_share tries g.won g.tried g.taken g.beyond)
  main_scans firsts tries o o' v v' d d' g a b = record {
    scanned = λ h.
        let x = a.balance h in
        let y = b.balance h in
        let w : weigh (out edge h) v'.won ≡ weigh (out edge h) v.won + weigh (out edge h) g.won =
        ap (weigh (out edge h)) g.won_is ∙ weigh-append (out edge h) v.won g.won in
        let k : weigh h v'.known ≡ weigh h v.known + weigh h g.tried = ap (weigh h) g.tried_is
        ∙ weigh-append h v.known g.tried in
        let t : weigh h d'.taken ≡ weigh h d.taken + weigh h g.taken = ap (weigh h) g.taken_is
        ∙ weigh-append h d.taken g.taken in
        let p : weigh h d'.put ≡ weigh h d.put = ap (weigh h) g.put_is in
        let e : weigh h o' ≡ weigh h o + weigh h g.beyond = ap (weigh h) g.beyond_is ∙ weigh-append h o g.beyond in
        omega arith;
    won_tried = g.won_tried;
  }

  pub shared : (m n one two : Caller) (tries o o' : List (ℕ × ℕ)) (v v' : MarkView) (d d' : QueueView)
      → HasRun edge marking P m one → HasRun edge marking P n two
      → v.won ≡ (view_of one.seat).won ++ (view_of two.seat).won
      → v.known ≡ (view_of one.seat).known ++ (view_of two.seat).known
      → v.logs ≡ (new_log ∷ (view_of one.seat).logs) ++ (view_of two.seat).logs
      → d.put ≡ (view one.pass).put ++ (view two.pass).put
      → d.taken ≡ (view one.pass).taken ++ (view two.pass).taken
      → d.moves ≡ (new_moves ∷ (view one.pass).moves) ++ (view two.pass).moves
      → tries ≡ tries_of one.lists ++ tries_of two.lists
      → o ≡ outside_of one.lists ++ outside_of two.lists
      → Accounts edge marking P (tries_of m.lists ++ tries_of n.lists) [] [] tries o v d
      → Accounts edge marking P (tries_of m.lists ++ tries_of n.lists) [] [] [] o' v' d'
      → HasGrown o v d o' v' d' → d'.parts ≡ whole → Total d' []
      → AreShared edge (tries_of m.lists ++ tries_of n.lists) o' v' d'
  shared m n one two tries o o' v v' d d' r s won_is known_is logs_are put_is taken_is moves_are tries_is outside_is a b
      g all total = record {
        one = share_of m one;
        two = share_of n two;
        main = main_share tries g.won g.tried g.taken g.beyond;
        logs_are = g.logs_are ∙ ap (logs_with g.won g.tried)
            (logs_are ∙ (λ i. (new_log ∷ r.logs_are i) ++ s.logs_are i));
        moves_are = g.moves_are ∙ ap (moves_with [] g.taken)
            (moves_are ∙ (λ i. (new_moves ∷ r.moves_are i) ++ s.moves_are i));
        one_scans = scans m one r;
        two_scans = scans n two s;
        main_scans = main_scans (tries_of m.lists ++ tries_of n.lists) tries o o' v v' d d' g a b;
        cut = refl;
        left_to_main = tries_is;
        none_left = refl;
        none_given = refl;
        queue = λ h.
            let t = total all h in
            let p : weigh h d'.put ≡ weigh h (view one.pass).put + weigh h (view two.pass).put =
            ap (weigh h) (g.put_is ∙ put_is) ∙ weigh-append h (view one.pass).put (view two.pass).put in
            let x : weigh h d'.taken ≡ weigh h d.taken + weigh h g.taken = ap (weigh h) g.taken_is
            ∙ weigh-append h d.taken g.taken in
            let y : weigh h d.taken ≡ weigh h (view one.pass).taken + weigh h (view two.pass).taken =
            ap (weigh h) taken_is ∙ weigh-append h (view one.pass).taken (view two.pass).taken in omega arith;
        won_is = g.won_is ∙ ap (λ (l : List (ℕ × ℕ)). l ++ g.won) won_is;
        outside_is = g.beyond_is ∙ ap (λ (l : List (ℕ × ℕ)). l ++ g.beyond) outside_is;
        tried_is = g.tried_is ∙ ap (λ (l : List (ℕ × ℕ)). l ++ g.tried) known_is;
      }
