-- What is given of a storm, and what is left of it.
use Rattle.std.proofs.Common.{◌≡◌, ◌+◌, ◌-◌, ◌<◌, ◌≤◌, ℕ, zero, suc, List, [], ◌∷◌, ◌++◌, Some, length, drop, refl}
use Rattle.std.proofs.Common.{ap, sym, subst, ◌∙◌, arith, append_assoc, inl}
use Rattle.std.proofs.lemmas.List.{drop_all}
use Rattle.gz_names.specs.declared.commands.Cmd.{Cmd}
use Rattle.trace_lang.specs.Grammar.{Spells}
use Rattle.trace_lang.proofs.Fine.{spells_fine}
use Rattle.command_source.specs.Giving.{GivesCommand}
use Rattle.storm_source.specs.Commands.{drawn_command, head_command, tail_command}
use Rattle.storm_source.specs.Trace.{drawn_line, drawn_lines, head_lines, line_state, tail_lines, text_of}
use Rattle.storm_source.proofs.Spelled.{drawn_spells, head_spells, tail_spells}

-- the first of some lines is given
gives_first : (line : List ℕ) (lines : List (List ℕ)) (c : Cmd) → Spells line c
    → GivesCommand (Some (text_of (line ∷ lines))) (Some (text_of lines)) c
gives_first line lines c s =
    let fine = spells_fine line c s in
    record {
      line = line;
      size = length line;
      taken = (
        refl,
        (let short = fine.short in omega (arith, short)),
        fine.plain,
        inl (append_assoc line (10 ∷ []) (text_of lines)),
      );
      spelt = s;
    }

-- where the old lines are one and the new ones
gives_line : (old new : List (List ℕ)) (line : List ℕ) (c : Cmd) → old ≡ line ∷ new → Spells line c
    → GivesCommand (Some (text_of old)) (Some (text_of new)) c
gives_line old new line c is s =
    subst (λ (ls : List (List ℕ)). GivesCommand (Some (text_of ls)) (Some (text_of new)) c) (sym is)
    (gives_first line new c s)

-- the text that a source tells
pub gives_told : (old text new : List ℕ) (c : Cmd) → text ≡ old → GivesCommand (Some text) (Some new) c
    → GivesCommand (Some old) (Some new) c
gives_told old text new c is gives =
    subst (λ (bytes : List ℕ). GivesCommand (Some bytes) (Some new) c) is gives

pub gives_head : (i : ℕ) (rest : List (List ℕ)) (c : Cmd) → i < 16 → c ≡ head_command i
    → GivesCommand (Some (text_of (drop i head_lines ++ rest))) (Some (text_of (drop (i + 1) head_lines ++ rest))) c
gives_head i rest c few is =
    let at = head_spells i few in
    gives_line _ _ at.0 c (ap (λ (ls : List (List ℕ)). ls ++ rest) at.1)
    (subst (λ (d : Cmd). Spells at.0 d) (sym is) at.2)

-- nothing is left of the head
head_gone : (i : ℕ) → 16 ≤ i → drop i head_lines ≡ []
head_gone i all = drop_all i head_lines (let n : length head_lines ≡ 16 = refl in omega (arith, n, all))

pub gives_drawn : (i n m x y : ℕ) (tail : List (List ℕ)) (c : Cmd) → 16 ≤ i → 0 < n → m ≡ n - 1 → y ≡ line_state x
    → c ≡ drawn_command x
    → GivesCommand (Some (text_of (drop i head_lines ++ (drawn_lines n x ++ tail))))
    (Some (text_of (drop i head_lines ++ (drawn_lines m y ++ tail)))) c
gives_drawn i zero m x y tail c all some less state is = absurd (omega arith)
gives_drawn i (suc n) m x y tail c all some less state is =
    let gone = head_gone i all in
    let same : m ≡ n = omega (arith, less) in
    let line = drawn_line x in
    gives_line _ _ line c
    (ap (λ (ls : List (List ℕ)). ls ++ (drawn_lines (suc n) x ++ tail)) gone
    ∙ ap (λ (z : ℕ). line ∷ (drawn_lines n z ++ tail)) (sym state)
    ∙ ap (λ (k : ℕ). line ∷ (drawn_lines k y ++ tail)) (sym same)
    ∙ ap (λ (ls : List (List ℕ)). line ∷ (ls ++ (drawn_lines m y ++ tail))) (sym gone))
    (subst (λ (d : Cmd). Spells line d) (sym is) (drawn_spells x).0)

pub gives_tail : (i n j x : ℕ) (c : Cmd) → 16 ≤ i → n ≡ 0 → j < 3 → c ≡ tail_command j
    → GivesCommand (Some (text_of (drop i head_lines ++ (drawn_lines n x ++ drop j tail_lines))))
    (Some (text_of (drop i head_lines ++ (drawn_lines n x ++ drop (j + 1) tail_lines)))) c
gives_tail i (suc n) j x c all none few is = absurd (cc none)
gives_tail i zero j x c all none few is =
    let gone = head_gone i all in
    let at = tail_spells j few in
    gives_line _ _ at.0 c
    (ap (λ (ls : List (List ℕ)). ls ++ drop j tail_lines) gone ∙ at.1
    ∙ ap (λ (ls : List (List ℕ)). at.0 ∷ (ls ++ drop (j + 1) tail_lines)) (sym gone))
    (subst (λ (d : Cmd). Spells at.0 d) (sym is) at.2)
