-- The generated trace, as a plain function of its seed and its number of lines.
use Rattle.std.specs.Prelude.{◌+◌, ◌==◌, nat_lt, ℕ, zero, suc, List, [], ◌∷◌, ◌++◌, codes, if◌then◌else◌}
use Rattle.std.specs.List.{flat_map}
use Rattle.gz_names.specs.Zones.{zones_in}
use Rattle.trace_lang.specs.Texts.{line_of}
use Rattle.trace_lang.specs.Words.{gray_word, number_word, number_words, reg_word}
use Rattle.storm_source.specs.Draws.{choice_of, next_state}

-- what a word of a line is drawn from; a number is drawn below a bound
pub data Choice : Type 0 where
  register : Choice
  gray_slot : Choice
  below : ℕ → Choice

-- a word by the state after its draw
abbrev pub choice_word : Choice → ℕ → List ℕ
choice_word register x = reg_word (choice_of x 16)
choice_word gray_slot x = gray_word (choice_of x 64)
choice_word (below m) x = number_word (choice_of x m)

-- words drawn from left to right, and the state after them
abbrev pub words_text : List Choice → ℕ → List ℕ
words_text [] x = []
words_text (c ∷ cs) x = choice_word c (next_state x) ++ words_text cs (next_state x)

abbrev pub words_state : List Choice → ℕ → ℕ
words_state [] x = x
words_state (c ∷ cs) x = words_state cs (next_state x)

-- the table of lines: the first word of a row below 15, and what its further words are drawn from
abbrev pub row_word : ℕ → List ℕ
row_word row =
    if nat_lt row 3 then codes "new"
    else if nat_lt row 4 then codes "map"
    else if nat_lt row 6 then codes "get"
    else if nat_lt row 8 then codes "set"
    else if nat_lt row 9 then codes "wrap"
    else if nat_lt row 10 then codes "unwrap"
    else if nat_lt row 11 then codes "put"
    else if nat_lt row 12 then codes "find"
    else if nat_lt row 13 then codes "hold"
    else if nat_lt row 14 then codes "expose"
    else codes "drop"

abbrev pub row_choices : ℕ → List Choice
row_choices row =
    if nat_lt row 3 then register ∷ below 8 ∷ below 5 ∷ []
    else if nat_lt row 4 then register ∷ below 8 ∷ []
    else if nat_lt row 6 then register ∷ register ∷ below 4 ∷ []
    else if nat_lt row 8 then register ∷ below 4 ∷ register ∷ []
    else if nat_lt row 9 then register ∷ register ∷ below 8 ∷ []
    else if nat_lt row 10 then register ∷ register ∷ []
    else if nat_lt row 12 then register ∷ register ∷ register ∷ []
    else if nat_lt row 13 then gray_slot ∷ register ∷ []
    else if nat_lt row 14 then register ∷ gray_slot ∷ []
    else register ∷ []

-- the zones of a `gc`, as a word of four bits that is not 0: zone i for bit i
abbrev pub zone_bits : ℕ → ℕ
zone_bits x = 1 + choice_of x 15

-- the last row: one time in four a collection of some zones begins, else it goes on by fewer than 64 units
abbrev pub collection_line : ℕ → List ℕ
collection_line x =
    if choice_of (next_state x) 4 == 0
    then codes "gc" ++ number_words (zones_in (record { bits = zone_bits (next_state (next_state x)) }))
    else codes "slice" ++ words_text (below 64 ∷ []) (next_state x)

-- a line, whose first draw chooses one of 16 rows, and the state after it
abbrev pub drawn_line : ℕ → List ℕ
drawn_line x =
    let y = next_state x in let row = choice_of y 16 in
    if nat_lt row 15 then row_word row ++ words_text (row_choices row) y else collection_line y

abbrev pub line_state : ℕ → ℕ
line_state x =
    let y = next_state x in let row = choice_of y 16 in
    if nat_lt row 15 then words_state (row_choices row) y else next_state (next_state y)

-- this number of lines, one after another
abbrev pub drawn_lines : ℕ → ℕ → List (List ℕ)
drawn_lines zero x = []
drawn_lines (suc n) x = drawn_line x ∷ drawn_lines n (line_state x)

-- four zones, eight compartments and four objects come first
abbrev pub head_lines : List (List ℕ)
head_lines =
    codes "zone" ∷ codes "zone" ∷ codes "zone" ∷ codes "zone"
    ∷ codes "comp 0" ∷ codes "comp 1" ∷ codes "comp 2" ∷ codes "comp 3"
    ∷ codes "comp 0" ∷ codes "comp 1" ∷ codes "comp 2" ∷ codes "comp 3"
    ∷ codes "new r0 0 4" ∷ codes "new r1 1 4" ∷ codes "new r2 2 4" ∷ codes "new r3 3 4" ∷ []

-- and a collection of all zones last
abbrev pub tail_lines : List (List ℕ)
tail_lines = codes "finish" ∷ codes "collect 0 1 2 3" ∷ codes "colours" ∷ []

-- the lines of the whole trace, and its bytes
abbrev pub storm_lines : ℕ → ℕ → List (List ℕ)
storm_lines seed lines = head_lines ++ (drawn_lines lines seed ++ tail_lines)

-- lines, each with its line feed
abbrev pub text_of : List (List ℕ) → List ℕ
text_of lines = flat_map line_of lines

abbrev pub storm_text : ℕ → ℕ → List ℕ
storm_text seed lines = text_of (storm_lines seed lines)
