-- The views of seats, and how steps change them.
use Rattle.std.specs.Prelude.{ℕ, ◌+◌, ◌-◌, List, [], ◌∷◌, ◌++◌}
use Rattle.mark_words.specs.declared.view.MarkLog.{MarkLog}
use Rattle.mark_words.specs.declared.view.MarkView.{MarkView}
use Rattle.mark_words.specs.Sums.{whole}

-- a seat that did nothing yet
abbrev pub new_log : MarkLog
new_log = record { won = []; tried = [] }

-- the seat whose log stands first won these, and tried those
abbrev pub logs_with : List (ℕ × ℕ) → List (ℕ × ℕ) → List MarkLog → List MarkLog
logs_with won tried [] = []
logs_with won tried (l ∷ ls) = record { won = l.won ++ won; tried = l.tried ++ tried } ∷ ls

abbrev pub view_with : List ℕ → ℕ → List (ℕ × ℕ) → List (ℕ × ℕ) → List MarkLog → MarkView
view_with first parts won known logs =
    record { first = first; parts = parts; won = won; known = known; logs = logs }

-- that of the first seat
abbrev pub first_view : List ℕ → MarkView
first_view first = view_with first whole [] [] (new_log ∷ [])

-- a seat and the one that was split off it
abbrev pub with_less : MarkView → MarkView
with_less v = record v { parts = v.parts - 1 }

abbrev pub split_off : MarkView → MarkView
split_off v = view_with v.first 1 [] [] (new_log ∷ [])

-- two seats in one, and what is left of the second
abbrev pub joined : MarkView → MarkView → MarkView
joined v w = view_with v.first (v.parts + w.parts) (v.won ++ w.won) (v.known ++ w.known) (v.logs ++ w.logs)

abbrev pub spent : MarkView
spent = view_with [] 0 [] [] []

-- after a step that tried the first places, of which it won the second
abbrev pub with_tried : MarkView → List (ℕ × ℕ) → List (ℕ × ℕ) → MarkView
with_tried v tried won = record v {
  won = v.won ++ won;
  known = v.known ++ tried;
  logs = logs_with won tried v.logs;
}
