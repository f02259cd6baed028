-- What a line's first draw decides.
use Rattle.std.proofs.Common.{◌≡◌, ◌<◌, ◌≤◌, ℕ, ap, ap₂, sym, ◌∙◌, Bool, cond}
use Rattle.std.specs.Prelude.{nat_lt}
use Rattle.std.proofs.lemmas.Bool.{le-ltb, lt-ltb}
use Rattle.gz_names.specs.declared.commands.Cmd.{Cmd}
use Rattle.gz_names.specs.declared.commands.Cmd.TheVariants.{Graph}
use Rattle.gz_names.specs.declared.commands.GraphCmd.{GraphCmd}
use Rattle.storm_source.specs.Commands.{collection_command, drawn_command, row_command}
use Rattle.storm_source.specs.Draws.{choice_of, next_state}
use Rattle.storm_source.specs.Trace.{line_state, row_choices, words_state}

-- the row that is drawn
drawn_row : (x y row : ℕ) → y ≡ next_state x → row ≡ choice_of y 16 → choice_of (next_state x) 16 ≡ row
drawn_row x y row state choice = ap (λ (z : ℕ). choice_of z 16) (sym state) ∙ sym choice

-- below 15 it is one of the table
pub row_drawn : (x y row : ℕ) (c : GraphCmd) → y ≡ next_state x → row ≡ choice_of y 16 → row < 15
    → c ≡ row_command row y → Graph c ≡ drawn_command x
row_drawn x y row c state choice few is =
    let by = λ (n z : ℕ). cond (nat_lt n 15) (Graph (row_command n z)) (collection_command z) in
    ap (λ (g : GraphCmd). Graph g) is
    ∙ sym (ap (λ (b : Bool). cond b (Graph (row_command row y)) (collection_command y)) (lt-ltb row 15 few))
    ∙ sym (ap₂ by (drawn_row x y row state choice) (sym state))

pub row_state : (x y z row : ℕ) → y ≡ next_state x → row ≡ choice_of y 16 → row < 15
    → z ≡ words_state (row_choices row) y → z ≡ line_state x
row_state x y z row state choice few is =
    let by = λ (n z : ℕ). cond (nat_lt n 15) (words_state (row_choices n) z) (next_state (next_state z)) in
    is
    ∙ sym (ap (λ (b : Bool). cond b (words_state (row_choices row) y) (next_state (next_state y)))
    (lt-ltb row 15 few))
    ∙ sym (ap₂ by (drawn_row x y row state choice) (sym state))

-- else it is the last one
pub collection_drawn : (x y row : ℕ) (c : Cmd) → y ≡ next_state x → row ≡ choice_of y 16 → 15 ≤ row
    → c ≡ collection_command y → c ≡ drawn_command x
collection_drawn x y row c state choice all is =
    let by = λ (n z : ℕ). cond (nat_lt n 15) (Graph (row_command n z)) (collection_command z) in
    is ∙ sym (ap (λ (b : Bool). cond b (Graph (row_command row y)) (collection_command y)) (le-ltb row 15 all))
    ∙ sym (ap₂ by (drawn_row x y row state choice) (sym state))
