-- Each line of a storm stands for a command.
use Rattle.std.proofs.Common.{◌≡◌, ◌+◌, ◌<◌, ◌++◌, ℕ, zero, suc, List, [], ◌∷◌, Some, Bool, true, false}
use Rattle.std.proofs.Common.{refl, ap, ap₂, ◌∙◌, ◌/◌, sym, arith, append-nil, append_assoc, cond, drop, eqb, codes}
use Rattle.std.specs.Prelude.{nat_lt, All}
use Rattle.std.proofs.Math.Nat.{mod-lt}
use Rattle.std.proofs.lemmas.Bool.{ltb-true}
use Rattle.std.proofs.lemmas.Fmt.{decimal_digit}
use Rattle.std.proofs.lemmas.List.Elements.{All-cons, All-from_recursion, All-nil}
use Rattle.gz_names.specs.Zones.{zones_from, zones_in}
use Rattle.gz_names.specs.declared.zone_sets.ZoneSet.{ZoneSet}
use Rattle.gz_names.specs.declared.commands.Cmd.{Cmd}
use Rattle.gz_names.specs.declared.commands.Cmd.TheVariants.{Graph, Gc, Slice, Finish, Collect, Colours}
use Rattle.gz_names.specs.declared.commands.GraphCmd.{GraphCmd}
use Rattle.gz_names.specs.declared.commands.GraphCmd.TheVariants as cmd
use Rattle.trace_lang.specs.Grammar.{Spells, SpellsRest}
use Rattle.trace_lang.specs.Words.{gray_word, number_word, number_words, reg_word, word_text}
use Rattle.trace_lang.specs.declared.words.Word.{Word}
use Rattle.trace_lang.specs.declared.words.Word.TheVariants as word
use Rattle.storm_source.specs.Commands.{IsNoWeakCommand, MakesNoZone, SpellAll, collection_command, drawn_command}
use Rattle.storm_source.specs.Commands.{head_command, row_command, tail_command}
use Rattle.storm_source.specs.Draws.{choice_of, next_state}
use Rattle.storm_source.specs.Trace.{collection_line, drawn_line, drawn_lines, head_lines, line_state, row_choices}
use Rattle.storm_source.specs.Trace.{below, row_word, storm_lines, tail_lines, words_text, zone_bits}

-- a line stands for a command, which makes no zone
abbrev IsDrawn : List ℕ → Cmd → Type 0
IsDrawn line c = Spells line c × MakesNoZone c

spells : (line rest : List ℕ) (w : Word) (c : Cmd) → MakesNoZone c → line ≡ word_text w ++ rest → SpellsRest w rest c
    → IsDrawn line c
spells line rest w c other e so = ((w, rest, e, so), other)

-- what a draw chooses
choice_below : (x m : ℕ) → 0 < m → choice_of x m < m
choice_below x m some = mod-lt (x / 65536) some

-- words, the last of which nothing follows
one_word : (a : List ℕ) → a ++ [] ≡ a
one_word a = append-nil a

two_words : (a b : List ℕ) → a ++ (b ++ []) ≡ a ++ b
two_words a b = ap (λ (t : List ℕ). a ++ t) (append-nil b)

three_words : (a b c : List ℕ) → a ++ (b ++ (c ++ [])) ≡ a ++ b ++ c
three_words a b c = ap (λ (t : List ℕ). a ++ (b ++ t)) (append-nil c) ∙ sym (append_assoc a b c)

new_line : (a b c : ℕ) → IsDrawn (codes "new" ++ (reg_word (choice_of a 16) ++ (number_word (choice_of b 8)
    ++ (number_word (choice_of c 5) ++ []))))
    (Graph (cmd.New (choice_of a 16) (record { 0 = choice_of b 8 }) (choice_of c 5)))
new_line a b c =
    let r = choice_of a 16 in let d = choice_of b 8 in let n = choice_of c 5 in
    let eight = choice_below b 8 (omega arith) in let five = choice_below c 5 (omega arith) in
    spells _ (reg_word r ++ number_word d ++ number_word n) word.New (Graph (cmd.New r (record { 0 = d }) n))
    (λ q. cc q)
    (ap (λ (t : List ℕ). codes "new" ++ t) (three_words (reg_word r) (number_word d) (number_word n)))
    (r, record { 0 = d }, n, refl, choice_below a 16 (omega arith), omega (arith, eight), omega (arith, five), refl)

map_line : (a b : ℕ) → IsDrawn (codes "map" ++ (reg_word (choice_of a 16) ++ (number_word (choice_of b 8) ++ [])))
    (Graph (cmd.Map (choice_of a 16) (record { 0 = choice_of b 8 })))
map_line a b =
    let r = choice_of a 16 in let d = choice_of b 8 in let eight = choice_below b 8 (omega arith) in
    spells _ (reg_word r ++ number_word d) word.Map (Graph (cmd.Map r (record { 0 = d }))) (λ q. cc q)
    (ap (λ (t : List ℕ). codes "map" ++ t) (two_words (reg_word r) (number_word d)))
    (r, record { 0 = d }, refl, choice_below a 16 (omega arith), omega (arith, eight), refl)

get_line : (a b c : ℕ) → IsDrawn (codes "get" ++ (reg_word (choice_of a 16) ++ (reg_word (choice_of b 16)
    ++ (number_word (choice_of c 4) ++ []))))
    (Graph (cmd.Get (choice_of a 16) (choice_of b 16) (choice_of c 4)))
get_line a b c =
    let r = choice_of a 16 in let s = choice_of b 16 in let f = choice_of c 4 in
    let four = choice_below c 4 (omega arith) in
    spells _ (reg_word r ++ reg_word s ++ number_word f) word.Get (Graph (cmd.Get r s f)) (λ q. cc q)
    (ap (λ (t : List ℕ). codes "get" ++ t) (three_words (reg_word r) (reg_word s) (number_word f)))
    (r, s, f, refl, choice_below a 16 (omega arith), choice_below b 16 (omega arith), omega (arith, four), refl)

set_line : (a b c : ℕ) → IsDrawn (codes "set" ++ (reg_word (choice_of a 16) ++ (number_word (choice_of b 4)
    ++ (reg_word (choice_of c 16) ++ []))))
    (Graph (cmd.Set (choice_of a 16) (choice_of b 4) (Some (choice_of c 16))))
set_line a b c =
    let s = choice_of a 16 in let f = choice_of b 4 in let t = choice_of c 16 in
    let four = choice_below b 4 (omega arith) in
    spells _ (reg_word s ++ number_word f ++ reg_word t) word.Set (Graph (cmd.Set s f (Some t))) (λ q. cc q)
    (ap (λ (text : List ℕ). codes "set" ++ text) (three_words (reg_word s) (number_word f) (reg_word t)))
    (s, f, Some t, refl, choice_below a 16 (omega arith), omega (arith, four), choice_below c 16 (omega arith), refl)

wrap_line : (a b c : ℕ) → IsDrawn (codes "wrap" ++ (reg_word (choice_of a 16) ++ (reg_word (choice_of b 16)
    ++ (number_word (choice_of c 8) ++ []))))
    (Graph (cmd.Wrap (choice_of a 16) (choice_of b 16) (record { 0 = choice_of c 8 })))
wrap_line a b c =
    let r = choice_of a 16 in let s = choice_of b 16 in let d = choice_of c 8 in
    let eight = choice_below c 8 (omega arith) in
    spells _ (reg_word r ++ reg_word s ++ number_word d) word.Wrap (Graph (cmd.Wrap r s (record { 0 = d }))) (λ q. cc q)
    (ap (λ (t : List ℕ). codes "wrap" ++ t) (three_words (reg_word r) (reg_word s) (number_word d))) (
      r,
      s,
      record { 0 = d },
      refl,
      choice_below a 16 (omega arith),
      choice_below b 16 (omega arith),
      omega (arith, eight),
      refl,
    )

unwrap_line : (a b : ℕ) → IsDrawn (codes "unwrap" ++ (reg_word (choice_of a 16) ++ (reg_word (choice_of b 16) ++ [])))
    (Graph (cmd.Unwrap (choice_of a 16) (choice_of b 16)))
unwrap_line a b =
    let r = choice_of a 16 in let s = choice_of b 16 in
    spells _ (reg_word r ++ reg_word s) word.Unwrap (Graph (cmd.Unwrap r s)) (λ q. cc q)
    (ap (λ (t : List ℕ). codes "unwrap" ++ t) (two_words (reg_word r) (reg_word s)))
    (r, s, refl, choice_below a 16 (omega arith), choice_below b 16 (omega arith), refl)

put_line : (a b c : ℕ) → IsDrawn (codes "put" ++ (reg_word (choice_of a 16) ++ (reg_word (choice_of b 16)
    ++ (reg_word (choice_of c 16) ++ []))))
    (Graph (cmd.Put (choice_of a 16) (choice_of b 16) (choice_of c 16)))
put_line a b c =
    let m = choice_of a 16 in let k = choice_of b 16 in let v = choice_of c 16 in
    spells _ (reg_word m ++ reg_word k ++ reg_word v) word.Put (Graph (cmd.Put m k v)) (λ q. cc q)
    (ap (λ (t : List ℕ). codes "put" ++ t) (three_words (reg_word m) (reg_word k) (reg_word v))) (
      m,
      k,
      v,
      refl,
      choice_below a 16 (omega arith),
      choice_below b 16 (omega arith),
      choice_below c 16 (omega arith),
      refl,
    )

find_line : (a b c : ℕ) → IsDrawn (codes "find" ++ (reg_word (choice_of a 16) ++ (reg_word (choice_of b 16)
    ++ (reg_word (choice_of c 16) ++ []))))
    (Graph (cmd.Find (choice_of a 16) (choice_of b 16) (choice_of c 16)))
find_line a b c =
    let r = choice_of a 16 in let m = choice_of b 16 in let k = choice_of c 16 in
    spells _ (reg_word r ++ reg_word m ++ reg_word k) word.Find (Graph (cmd.Find r m k)) (λ q. cc q)
    (ap (λ (t : List ℕ). codes "find" ++ t) (three_words (reg_word r) (reg_word m) (reg_word k))) (
      r,
      m,
      k,
      refl,
      choice_below a 16 (omega arith),
      choice_below b 16 (omega arith),
      choice_below c 16 (omega arith),
      refl,
    )

hold_line : (a b : ℕ) → IsDrawn (codes "hold" ++ (gray_word (choice_of a 64) ++ (reg_word (choice_of b 16) ++ [])))
    (Graph (cmd.Hold (choice_of a 64) (choice_of b 16)))
hold_line a b =
    let g = choice_of a 64 in let r = choice_of b 16 in
    spells _ (gray_word g ++ reg_word r) word.Hold (Graph (cmd.Hold g r)) (λ q. cc q)
    (ap (λ (t : List ℕ). codes "hold" ++ t) (two_words (gray_word g) (reg_word r)))
    (g, r, refl, choice_below a 64 (omega arith), choice_below b 16 (omega arith), refl)

expose_line : (a b : ℕ)
    → IsDrawn (codes "expose" ++ (reg_word (choice_of a 16) ++ (gray_word (choice_of b 64) ++ [])))
    (Graph (cmd.Expose (choice_of a 16) (choice_of b 64)))
expose_line a b =
    let r = choice_of a 16 in let g = choice_of b 64 in
    spells _ (reg_word r ++ gray_word g) word.Expose (Graph (cmd.Expose r g)) (λ q. cc q)
    (ap (λ (t : List ℕ). codes "expose" ++ t) (two_words (reg_word r) (gray_word g)))
    (r, g, refl, choice_below a 16 (omega arith), choice_below b 64 (omega arith), refl)

drop_line : (a : ℕ) → IsDrawn (codes "drop" ++ (reg_word (choice_of a 16) ++ []))
    (Graph (cmd.Drop (choice_of a 16)))
drop_line a =
    let r = choice_of a 16 in
    spells _ (reg_word r) word.Drop (Graph (cmd.Drop r)) (λ q. cc q)
    (ap (λ (t : List ℕ). codes "drop" ++ t) (one_word (reg_word r)))
    (r, refl, choice_below a 16 (omega arith), refl)

-- the rows of the table
row_line : (row y : ℕ) → row < 15
    → IsDrawn (row_word row ++ words_text (row_choices row) y) (Graph (row_command row y))
row_line zero y lt =
    new_line (next_state y) (next_state (next_state y)) (next_state (next_state (next_state y)))
row_line (suc zero) y lt =
    new_line (next_state y) (next_state (next_state y)) (next_state (next_state (next_state y)))
row_line (suc (suc zero)) y lt =
    new_line (next_state y) (next_state (next_state y)) (next_state (next_state (next_state y)))
row_line (suc (suc (suc zero))) y lt =
    map_line (next_state y) (next_state (next_state y))
row_line (suc (suc (suc (suc zero)))) y lt =
    get_line (next_state y) (next_state (next_state y)) (next_state (next_state (next_state y)))
row_line (suc (suc (suc (suc (suc zero))))) y lt =
    get_line (next_state y) (next_state (next_state y)) (next_state (next_state (next_state y)))
row_line (suc (suc (suc (suc (suc (suc zero)))))) y lt =
    set_line (next_state y) (next_state (next_state y)) (next_state (next_state (next_state y)))
row_line (suc (suc (suc (suc (suc (suc (suc zero))))))) y lt =
    set_line (next_state y) (next_state (next_state y)) (next_state (next_state (next_state y)))
row_line (suc (suc (suc (suc (suc (suc (suc (suc zero)))))))) y lt =
    wrap_line (next_state y) (next_state (next_state y)) (next_state (next_state (next_state y)))
row_line (suc (suc (suc (suc (suc (suc (suc (suc (suc zero))))))))) y lt =
    unwrap_line (next_state y) (next_state (next_state y))
row_line (suc (suc (suc (suc (suc (suc (suc (suc (suc (suc zero)))))))))) y lt =
    put_line (next_state y) (next_state (next_state y)) (next_state (next_state (next_state y)))
row_line (suc (suc (suc (suc (suc (suc (suc (suc (suc (suc (suc zero))))))))))) y lt =
    find_line (next_state y) (next_state (next_state y)) (next_state (next_state (next_state y)))
row_line (suc (suc (suc (suc (suc (suc (suc (suc (suc (suc (suc (suc zero)))))))))))) y lt =
    hold_line (next_state y) (next_state (next_state y))
row_line (suc (suc (suc (suc (suc (suc (suc (suc (suc (suc (suc (suc (suc zero))))))))))))) y lt =
    expose_line (next_state y) (next_state (next_state y))
row_line (suc (suc (suc (suc (suc (suc (suc (suc (suc (suc (suc (suc (suc (suc zero)))))))))))))) y lt =
    drop_line (next_state y)
row_line (suc (suc (suc (suc (suc (suc (suc (suc (suc (suc (suc (suc (suc (suc (suc row))))))))))))))) y lt =
    absurd (omega arith)

gc_line : (z : ℕ) → IsDrawn (codes "gc" ++ number_words (zones_in (record { bits = zone_bits z })))
    (Gc (record { bits = zone_bits z }))
gc_line z =
    let few = choice_below z 15 (omega arith) in
    let zones : ZoneSet = record { bits = zone_bits z } in
    spells _ (number_words (zones_in zones)) word.Gc (Gc zones) (λ q. cc q) refl
    (zones, refl, (omega arith, omega (arith, few), refl))

slice_line : (z : ℕ) → IsDrawn (codes "slice" ++ (number_word (choice_of z 64) ++ [])) (Slice (choice_of z 64))
slice_line z =
    let n = choice_of z 64 in let few = choice_below z 64 (omega arith) in
    spells _ (number_word n) word.Slice (Slice n) (λ q. cc q)
    (ap (λ (t : List ℕ). codes "slice" ++ t) (one_word (number_word n)))
    (n, refl, omega (arith, few), refl)

by_draw : (y : ℕ) (b : Bool) → IsDrawn (cond b
    (codes "gc" ++ number_words (zones_in (record { bits = zone_bits (next_state (next_state y)) })))
    (codes "slice" ++ words_text (below 64 ∷ []) (next_state y)))
    (cond b (Gc (record { bits = zone_bits (next_state (next_state y)) }))
    (Slice (choice_of (next_state (next_state y)) 64)))
by_draw y true = gc_line (next_state (next_state y))
by_draw y false = slice_line (next_state (next_state y))

by_row : (row y : ℕ) (b : Bool) → nat_lt row 15 ≡ b
    → IsDrawn (cond b (row_word row ++ words_text (row_choices row) y) (collection_line y))
    (cond b (Graph (row_command row y)) (collection_command y))
by_row row y true lt = row_line row y (ltb-true row 15 lt)
by_row row y false lt = by_draw y (eqb (choice_of (next_state y) 4) 0)

pub drawn_spells : (x : ℕ) → IsDrawn (drawn_line x) (drawn_command x)
drawn_spells x =
    let row = choice_of (next_state x) 16 in by_row row (next_state x) (nat_lt row 15) refl

-- which names nothing weakly
graph_plain : (c : GraphCmd) → IsNoWeakCommand (Graph c)
graph_plain c k q = cc q

draw_plain : (y : ℕ) (b : Bool) → IsNoWeakCommand (cond b (Gc (record { bits = zone_bits (next_state (next_state y)) }))
    (Slice (choice_of (next_state (next_state y)) 64)))
draw_plain y true k q = cc q
draw_plain y false k q = cc q

row_plain : (row y : ℕ) (b : Bool) → IsNoWeakCommand (cond b (Graph (row_command row y)) (collection_command y))
row_plain row y true = graph_plain (row_command row y)
row_plain row y false = draw_plain y (eqb (choice_of (next_state y) 4) 0)

drawn_plain : (x : ℕ) → IsNoWeakCommand (drawn_command x)
drawn_plain x = let row = choice_of (next_state x) 16 in row_plain row (next_state x) (nat_lt row 15)

-- the commands of drawn lines
abbrev pub AreDrawn : List (List ℕ) → List Cmd → Type 0
AreDrawn lines cs = SpellAll lines cs × All MakesNoZone cs × All IsNoWeakCommand cs

pub all_drawn : (n x : ℕ) → (cs : List Cmd) × AreDrawn (drawn_lines n x) cs
all_drawn zero x = ([], (tt, All-nil MakesNoZone, All-nil IsNoWeakCommand))
all_drawn (suc n) x =
    let first = drawn_spells x in
    let rest = all_drawn n (line_state x) in (
      drawn_command x ∷ rest.0,
      (
        (first.0, rest.1.0),
        All-cons MakesNoZone (drawn_command x) rest.0 first.1 rest.1.1,
        All-cons IsNoWeakCommand (drawn_command x) rest.0 (drawn_plain x) rest.1.2,
      ),
    )

-- the lines of the head and of the tail
spelt : (line rest : List ℕ) (w : Word) (c : Cmd) → line ≡ word_text w ++ rest → SpellsRest w rest c → Spells line c
spelt line rest w c e so = (w, rest, e, so)

pub zone_made : Spells (codes "zone") (Graph cmd.Zone)
zone_made = spelt _ [] word.Zone (Graph cmd.Zone) refl (refl, refl)

digit_word : (n : ℕ) → n < 10 → 32 ∷ (48 + n) ∷ [] ≡ number_word n
digit_word n lt = ap (λ (t : List ℕ). 32 ∷ t) (sym (decimal_digit n lt))

comp_made : (z : ℕ) → z < 4 → Spells (codes "comp" ++ (32 ∷ (48 + z) ∷ [])) (Graph (cmd.Comp z))
comp_made z few =
    spelt _ (32 ∷ (48 + z) ∷ []) word.Comp (Graph (cmd.Comp z)) refl
    (z, refl, omega (arith, few), digit_word z (omega (arith, few)))

new_made : (r : ℕ) → r < 4 → Spells (codes "new" ++ (32 ∷ 114 ∷ (48 + r) ∷ 32 ∷ (48 + r) ∷ 32 ∷ 52 ∷ []))
    (Graph (cmd.New r (record { 0 = r }) 4))
new_made r few =
    let digit = decimal_digit r (omega (arith, few)) in let four = decimal_digit 4 (omega arith) in
    spelt _ (32 ∷ 114 ∷ (48 + r) ∷ 32 ∷ (48 + r) ∷ 32 ∷ 52 ∷ []) word.New (Graph (cmd.New r (record { 0 = r }) 4))
    refl (
      r,
      record { 0 = r },
      4,
      refl,
      omega (arith, few),
      omega (arith, few),
      omega arith,
      sym (ap₂ (λ (t u : List ℕ). (32 ∷ 114 ∷ t) ++ (32 ∷ t) ++ (32 ∷ u)) digit four),
    )

pub all_four : codes " 0 1 2 3" ≡ number_words (0 ∷ 1 ∷ 2 ∷ 3 ∷ [])
all_four =
    sym (ap₂ (λ (t u : List ℕ). 32 ∷ (t ++ (32 ∷ (u ++ number_words (2 ∷ 3 ∷ []))))) (decimal_digit 0 (omega arith))
    (decimal_digit 1 (omega arith))
    ∙ ap₂ (λ (t u : List ℕ). 32 ∷ 48 ∷ 32 ∷ 49 ∷ 32 ∷ (t ++ (32 ∷ (u ++ [])))) (decimal_digit 2 (omega arith))
    (decimal_digit 3 (omega arith)))

collect_made : Spells (codes "collect 0 1 2 3") (Collect (record { bits = 15 }))
unfolding zones_in zones_from
collect_made =
    let zones : ZoneSet = record { bits = 15 } in
    spelt _ (codes " 0 1 2 3") word.Collect (Collect zones) refl (zones, refl, (omega arith, omega arith, all_four))

-- the commands before those that are drawn, but for the four zones
abbrev pub first_commands : List Cmd
first_commands =
    Graph (cmd.Comp 0) ∷ Graph (cmd.Comp 1) ∷ Graph (cmd.Comp 2) ∷ Graph (cmd.Comp 3)
    ∷ Graph (cmd.Comp 0) ∷ Graph (cmd.Comp 1) ∷ Graph (cmd.Comp 2) ∷ Graph (cmd.Comp 3)
    ∷ Graph (cmd.New 0 (record { 0 = 0 }) 4) ∷ Graph (cmd.New 1 (record { 0 = 1 }) 4)
    ∷ Graph (cmd.New 2 (record { 0 = 2 }) 4) ∷ Graph (cmd.New 3 (record { 0 = 3 }) 4) ∷ []

pub firsts_made : SpellAll (drop 4 head_lines) first_commands
firsts_made = (
  comp_made 0 (omega arith),
  (
    comp_made 1 (omega arith),
    (
      comp_made 2 (omega arith),
      (
        comp_made 3 (omega arith),
        (
          comp_made 0 (omega arith),
          (
            comp_made 1 (omega arith),
            (
              comp_made 2 (omega arith),
              (
                comp_made 3 (omega arith),
                (
                  new_made 0 (omega arith),
                  (new_made 1 (omega arith), (new_made 2 (omega arith), (new_made 3 (omega arith), tt))),
                ),
              ),
            ),
          ),
        ),
      ),
    ),
  ),
)

pub firsts_plain : All IsNoWeakCommand first_commands
firsts_plain = All-from_recursion IsNoWeakCommand first_commands (
  graph_plain _,
  (
    graph_plain _,
    (
      graph_plain _,
      (
        graph_plain _,
        (
          graph_plain _,
          (
            graph_plain _,
            (
              graph_plain _,
              (
                graph_plain _,
                (graph_plain _, (graph_plain _, (graph_plain _, (graph_plain _, tt)))),
              ),
            ),
          ),
        ),
      ),
    ),
  ),
)

pub firsts_make_none : All MakesNoZone first_commands
firsts_make_none =
    All-from_recursion MakesNoZone first_commands (
      (λ q. cc q),
      (
        (λ q. cc q),
        (
          (λ q. cc q),
          (
            (λ q. cc q),
            (
              (λ q. cc q),
              (
                (λ q. cc q),
                (
                  (λ q. cc q),
                  (
                    (λ q. cc q),
                    ((λ q. cc q), ((λ q. cc q), ((λ q. cc q), ((λ q. cc q), tt)))),
                  ),
                ),
              ),
            ),
          ),
        ),
      ),
    )

-- and those behind them
abbrev pub last_commands : List Cmd
last_commands = Finish ∷ Collect (record { bits = 15 }) ∷ Colours ∷ []

pub tail_made : SpellAll tail_lines last_commands
tail_made = (
  spelt _ [] word.Finish Finish refl (refl, refl),
  (collect_made, (spelt _ [] word.Colours Colours refl (refl, refl), tt)),
)

-- the line of the head at a place, and the lines behind it
abbrev StandsAt : List (List ℕ) → ℕ → Cmd → Type 0
StandsAt lines i c = (line : List ℕ) × (drop i lines ≡ line ∷ drop (i + 1) lines) × Spells line c

pub head_spells : (i : ℕ) → i < 16 → StandsAt head_lines i (head_command i)
head_spells zero few = (codes "zone", refl, zone_made)
head_spells (suc zero) few = (codes "zone", refl, zone_made)
head_spells (suc (suc zero)) few = (codes "zone", refl, zone_made)
head_spells (suc (suc (suc zero))) few = (codes "zone", refl, zone_made)
head_spells (suc (suc (suc (suc zero)))) few = (codes "comp 0", refl, comp_made 0 (omega arith))
head_spells (suc (suc (suc (suc (suc zero))))) few = (codes "comp 1", refl, comp_made 1 (omega arith))
head_spells (suc (suc (suc (suc (suc (suc zero)))))) few = (codes "comp 2", refl, comp_made 2 (omega arith))
head_spells (suc (suc (suc (suc (suc (suc (suc zero))))))) few = (codes "comp 3", refl, comp_made 3 (omega arith))
head_spells (suc (suc (suc (suc (suc (suc (suc (suc zero)))))))) few = (codes "comp 0", refl, comp_made 0 (omega arith))
head_spells (suc (suc (suc (suc (suc (suc (suc (suc (suc zero))))))))) few =
    (codes "comp 1", refl, comp_made 1 (omega arith))
head_spells (suc (suc (suc (suc (suc (suc (suc (suc (suc (suc zero)))))))))) few =
    (codes "comp 2", refl, comp_made 2 (omega arith))
head_spells (suc (suc (suc (suc (suc (suc (suc (suc (suc (suc (suc zero))))))))))) few =
    (codes "comp 3", refl, comp_made 3 (omega arith))
head_spells (suc (suc (suc (suc (suc (suc (suc (suc (suc (suc (suc (suc zero)))))))))))) few =
    (codes "new r0 0 4", refl, new_made 0 (omega arith))
head_spells (suc (suc (suc (suc (suc (suc (suc (suc (suc (suc (suc (suc (suc zero))))))))))))) few =
    (codes "new r1 1 4", refl, new_made 1 (omega arith))
head_spells (suc (suc (suc (suc (suc (suc (suc (suc (suc (suc (suc (suc (suc (suc zero)))))))))))))) few =
    (codes "new r2 2 4", refl, new_made 2 (omega arith))
head_spells (suc (suc (suc (suc (suc (suc (suc (suc (suc (suc (suc (suc (suc (suc (suc zero))))))))))))))) few =
    (codes "new r3 3 4", refl, new_made 3 (omega arith))
head_spells (suc (suc (suc (suc (suc (suc (suc (suc (suc (suc (suc (suc (suc (suc (suc (suc i)))))))))))))))) few =
    absurd (omega (arith, few))

pub tail_spells : (i : ℕ) → i < 3 → StandsAt tail_lines i (tail_command i)
tail_spells zero few = (codes "finish", refl, tail_made.0)
tail_spells (suc zero) few = (codes "collect 0 1 2 3", refl, tail_made.1.0)
tail_spells (suc (suc zero)) few = (codes "colours", refl, tail_made.1.1.0)
tail_spells (suc (suc (suc i))) few = absurd (omega (arith, few))

-- two lists after one another
spell_both : (ls ms : List (List ℕ)) (cs ds : List Cmd) → SpellAll ls cs → SpellAll ms ds
    → SpellAll (ls ++ ms) (cs ++ ds)
spell_both [] ms [] ds a b = b
spell_both (l ∷ ls) ms (c ∷ cs) ds a b = (a.0, spell_both ls ms cs ds a.1 b)
spell_both [] ms (c ∷ cs) ds a b = absurd a
spell_both (l ∷ ls) ms [] ds a b = absurd a

pub storm_spells : (seed lines : ℕ) → (commands : List Cmd) × SpellAll (storm_lines seed lines) commands
storm_spells seed lines =
    let drawn = all_drawn lines seed in (
      Graph cmd.Zone ∷ Graph cmd.Zone ∷ Graph cmd.Zone ∷ Graph cmd.Zone
          ∷ (first_commands ++ (drawn.0 ++ last_commands)),
      (
        zone_made,
        (
          zone_made,
          (
            zone_made,
            (
              zone_made,
              spell_both (drop 4 head_lines) (drawn_lines lines seed ++ tail_lines) first_commands
                  (drawn.0 ++ last_commands)
                  firsts_made (spell_both (drawn_lines lines seed) tail_lines drawn.0 last_commands drawn.1.0
                  tail_made),
            ),
          ),
        ),
      ),
    )
