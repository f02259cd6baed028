-- The numbers of the lists of places.
use Rattle.std.specs.Prelude.{◌≡◌, ◌<◌, ℕ, zero, suc, List, [], Option, Some, None, length, slice_get}
use Rattle.std.specs.Option.{option_and_then}
use Rattle.gz_names.specs.declared.numbers.Place.{Place}

-- one more than the number of each arena's page, and zero where it has none; on each page, one more than the number of
-- each slot's list, and zero where it has none
pub record HeadsState : Type 0 where
  pub arenas : List ℕ
  pub pages : List (List ℕ)

-- no place has a list
abbrev pub no_heads : HeadsState
no_heads = record { arenas = []; pages = [] }

-- the number that is kept as one more
abbrev pub number_from : ℕ → Option ℕ
number_from zero = None
number_from (suc n) = Some n

-- the number that is kept at an index
abbrev pub number_at : List ℕ → ℕ → Option ℕ
number_at numbers i = option_and_then number_from (slice_get numbers i)

-- the number of an arena's page
abbrev pub page_of : HeadsState → ℕ → Option ℕ
page_of heads arena = number_at heads.arenas arena

-- the number of a slot's list, by the page of its arena
abbrev pub on_page : List (List ℕ) → ℕ → Option ℕ → Option ℕ
on_page pages slot page =
    option_and_then (λ n. option_and_then (λ numbers. number_at numbers slot) (slice_get pages n)) page

-- the number of a place's list
abbrev pub head_of : HeadsState → Place → Option ℕ
head_of heads p = on_page heads.pages p.1 (page_of heads p.0)

-- each page is there, and has 64 numbers; and no two arenas have one
pub record ArePages (heads : HeadsState) : Type 0 where
  pub within : (a n : ℕ) → page_of heads a ≡ Some n → n < length heads.pages
  pub apart : (a b n : ℕ) → page_of heads a ≡ Some n → page_of heads b ≡ Some n → a ≡ b
  pub sized : (n : ℕ) (numbers : List ℕ) → slice_get heads.pages n ≡ Some numbers → length numbers ≡ 64
