-- What each caller won and scanned.
use Rattle.std.specs.Prelude.{◌≡◌, ℕ, ◌+◌, ◌≤◌, List, [], ◌∷◌, ◌++◌, Option}
use Rattle.mark_words.specs.declared.view.MarkLog.{MarkLog}
use Rattle.mark_words.specs.declared.view.MarkView.{MarkView}
use Rattle.mark_words.specs.Sums.{weigh}
use Rattle.par_mark.specs.declared.donations.Moves.{Moves}
use Rattle.par_mark.specs.declared.donations.QueueView.{QueueView}
use Rattle.mark_ahead.specs.Edges.{out}

-- one caller's share of marking: the tries that it began with and those that it left, the log of its seat, which has
-- the places that it tried and the cells that it won, what it gave to the queue and took from it by its pass, and what
-- it found outside the marking zones
pub record Share : Type 0 where
  pub firsts : List (ℕ × ℕ)
  pub left : List (ℕ × ℕ)
  pub log : MarkLog
  pub moves : Moves
  pub outside : List (ℕ × ℕ)

module _ (edge : ℕ × ℕ → ℕ → Option (ℕ × ℕ)) where
  pub record ScansItsOwn (s : Share) : Type 0 where
    -- it scanned each cell that it won, once, and no other cell: the tries that it began with, the targets of the cells
    -- that it won and what it took are, each place as often, what it tried, found outside, gave away and left
    pub scanned : (h : ℕ × ℕ → ℕ) → weigh h s.log.tried
        + (weigh h s.outside + (weigh h s.moves.given + weigh h s.left))
        ≡ weigh h s.firsts + (weigh (out edge h) s.log.won + weigh h s.moves.taken)
    -- it tried each cell that it won
    pub won_tried : (h : ℕ × ℕ → ℕ) → weigh h s.log.won ≤ weigh h s.log.tried

  -- what came of these tries: the shares of the two callers, and of main, which tried what they left. Main's seat and
  -- main's pass tell them apart
  pub record AreShared (firsts outside : List (ℕ × ℕ)) (v : MarkView) (d : QueueView) : Type 0 where
    pub one : Share
    pub two : Share
    pub main : Share
    -- the shares are what the seats and the passes have noted, main's own first
    pub logs_are : v.logs ≡ main.log ∷ one.log ∷ two.log ∷ []
    pub moves_are : d.moves ≡ main.moves ∷ one.moves ∷ two.moves ∷ []
    pub one_scans : ScansItsOwn one
    pub two_scans : ScansItsOwn two
    pub main_scans : ScansItsOwn main
    -- the callers began with the tries cut in two, and main with what both left; main left nothing
    pub cut : one.firsts ++ two.firsts ≡ firsts
    pub left_to_main : main.firsts ≡ one.left ++ two.left
    pub none_left : main.left ≡ []
    -- what the callers gave to the queue was taken from it, each place as often, by them or by main, which gave nothing
    pub none_given : main.moves.given ≡ []
    pub queue : (h : ℕ × ℕ → ℕ) → weigh h one.moves.given + weigh h two.moves.given
        ≡ weigh h one.moves.taken + (weigh h two.moves.taken + weigh h main.moves.taken)
    -- all shares together
    pub won_is : v.won ≡ (one.log.won ++ two.log.won) ++ main.log.won
    pub outside_is : outside ≡ (one.outside ++ two.outside) ++ main.outside
    pub tried_is : v.known ≡ (one.log.tried ++ two.log.tried) ++ main.log.tried
