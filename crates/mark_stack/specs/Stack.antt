-- Three piles of places.
use Rattle.std.specs.Prelude.{◌≡◌, ◌≢◌, ◌≤◌, ◌∷◌, [], List, Vec, vec_len, vec_capacity}
use Rattle.std.specs.List.Sorted.{IsPermutation}
use Rattle.std.specs.declared.alloc.Global.{Global}
use Rattle.gz_names.specs.declared.numbers.Place.{Place}
use Rattle.mark_stack.specs.declared.stack.Pile.{Pile}
use Rattle.mark_stack.specs.declared.stack.Pile.TheVariants as pile

-- the places on each pile
pub record Piles : Type 0 where
  pub black : List Place
  pub gray : List Place
  pub wake : List Place

-- nothing on any pile
abbrev pub no_places : Piles
no_places = record { black = []; gray = []; wake = [] }

-- the places on one pile
abbrev pub pile_of : Piles → Pile → List Place
pile_of piles pile.Black = piles.black
pile_of piles pile.Gray = piles.gray
pile_of piles pile.Wake = piles.wake

-- one place more is on a pile, and the others are as they were; nothing is said of the order on a pile
pub record IsPushed (old : Piles) (pile : Pile) (place : Place) (new : Piles) : Type 0 where
  pub more : IsPermutation (place ∷ pile_of old pile) (pile_of new pile)
  pub others : (other : Pile) → other ≢ pile → pile_of new other ≡ pile_of old other

-- a pile is within its room, for which it has the memory
pub record HasRoom (pile : Vec Place Global) : Type 0 where
  pub within : vec_len pile ≤ 4096
  pub held : 4096 ≤ vec_capacity pile
