-- The words of a line.
use Rattle.std.specs.Prelude.{◌≡◌, ◌≢◌, ℕ, ◌<◌, List, [], ◌∷◌, ◌++◌, Option, Some, None, codes, refl, ⊤}
use Rattle.std.specs.Fmt.{decimal}
use Rattle.trace_lang.specs.declared.words.Word.{Word}
use Rattle.trace_lang.specs.declared.words.Word.TheVariants as word

-- the text of a first word
abbrev pub word_text : Word → List ℕ
word_text word.Zone = codes "zone"
word_text word.Comp = codes "comp"
word_text word.New = codes "new"
word_text word.Map = codes "map"
word_text word.Get = codes "get"
word_text word.Set = codes "set"
word_text word.Wrap = codes "wrap"
word_text word.Unwrap = codes "unwrap"
word_text word.Copy = codes "copy"
word_text word.Drop = codes "drop"
word_text word.Hold = codes "hold"
word_text word.Release = codes "release"
word_text word.Expose = codes "expose"
word_text word.Put = codes "put"
word_text word.Del = codes "del"
word_text word.Find = codes "find"
word_text word.Gc = codes "gc"
word_text word.Slice = codes "slice"
word_text word.Finish = codes "finish"
word_text word.Collect = codes "collect"
word_text word.Colours = codes "colours"
word_text word.Dump = codes "dump"
word_text word.Reset = codes "reset"
word_text word.Weaken = codes "weaken"
word_text word.Deref = codes "deref"
word_text word.Watch = codes "watch"
word_text word.Unwatch = codes "unwatch"
word_text word.Compact = codes "compact"

-- a number behind a space
abbrev pub number_word : ℕ → List ℕ
number_word n = 32 ∷ decimal n

-- a register behind a space
abbrev pub reg_word : ℕ → List ℕ
reg_word r = 32 ∷ 114 ∷ decimal r

-- a gray slot behind a space
abbrev pub gray_word : ℕ → List ℕ
gray_word g = 32 ∷ 103 ∷ decimal g

-- a weak slot behind a space
abbrev pub weak_word : ℕ → List ℕ
weak_word q = 32 ∷ 113 ∷ decimal q

-- a register, or `-` for none, behind a space
abbrev pub target_word : Option ℕ → List ℕ
target_word None = codes " -"
target_word (Some r) = reg_word r

pub target_spaced : (t : Option ℕ) → (tail : List ℕ) × (target_word t ≡ 32 ∷ tail)
target_spaced None = (_, refl)
target_spaced (Some r) = (_, refl)

-- the register is one of the 16, where there is one
abbrev pub FitsTarget : Option ℕ → Type 0
FitsTarget None = ⊤
FitsTarget (Some r) = r < 16

-- numbers, each behind a space
abbrev pub number_words : List ℕ → List ℕ
number_words [] = []
number_words (n ∷ ns) = number_word n ++ number_words ns

-- a text that ends, or goes on with a space
abbrev pub IsBreak : List ℕ → Type 0
IsBreak [] = ⊤
IsBreak (b ∷ bs) = b ≡ 32

-- a text without a space
abbrev pub IsWord : List ℕ → Type 0
IsWord [] = ⊤
IsWord (b ∷ bs) = (b ≢ 32) × IsWord bs
