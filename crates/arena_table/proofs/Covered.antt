-- There is memory to delay the cells of all arenas.
use Rattle.std.proofs.Common.{◌≡◌, ◌≢◌, ◌≤◌, ◌+◌, ◌==◌, inl, inr, ℕ, Bool, true, false, List, [], ◌∷◌, ◌++◌, length}
use Rattle.std.proofs.Common.{Option}
use Rattle.std.proofs.Common.{if◌then◌else◌, ◌∙◌, ap, subst, sym, arith, ne_eqb, length-append, Some, None, IfNone}
use Rattle.std.proofs.lemmas.Bool.{cases_eq}
use Rattle.gz_names.specs.declared.numbers.Place.{Place}
use Rattle.arena_table.specs.Cells.{CellState}
use Rattle.arena_table.specs.Slots.{Arena, empty_arena, with_cell}
use Rattle.arena_table.specs.Delayed.{AreCovered, DelayedSets, IsAsRoomy}
use Rattle.arena_table.specs.Indexed.{IndexState}
use Rattle.arena_table.specs.Stored.{StoreState}
use Rattle.arena_table.specs.Table.{AreArenas, ArenasState, grown_to, put_at}
use Rattle.mark_stack.specs.Stack.{Piles, pile_of}
use Rattle.mark_stack.specs.declared.stack.Pile.{Pile}
use Rattle.arena_table.specs.declared.arenas.Reserved.{Reserved}
use Rattle.arena_table.proofs.Changing.{length-change_at}

pub covered-less : (sets : DelayedSets) (m n : ℕ) → m ≤ n → AreCovered sets n → AreCovered sets m
covered-less sets m n le h = record {
  black = (let room = h.black in omega arith);
  gray = (let room = h.gray in omega arith);
  wake = (let room = h.wake in omega arith);
}

pub covered-same : (sets : DelayedSets) (m n : ℕ) → m ≡ n → AreCovered sets n → AreCovered sets m
covered-same sets m n e h = subst (AreCovered sets) (sym e) h

grown-most : (xs : List Arena) (zone a : ℕ) → length (grown_to xs zone a) ≤ length xs + 1
grown-most xs zone a = by (a == length xs)
  where
    by : (t : Bool) → length (if t then xs ++ empty_arena zone ∷ [] else xs) ≤ length xs + 1
    by true = (let longer = length-append xs (empty_arena zone ∷ []) in omega arith)
    by false = omega arith

grown-same : (xs : List Arena) (zone a : ℕ) → a ≢ length xs → length (grown_to xs zone a) ≡ length xs
grown-same xs zone a n = ap (λ t. length (if t then xs ++ empty_arena zone ∷ [] else xs)) (ne_eqb a (length xs) n)

-- a cell is put, perhaps into a new arena
pub covered-put : (sets : DelayedSets) (xs ys : List Arena) (zone : ℕ) (p : Place) (cell : CellState)
    → AreCovered sets (length xs) → (p.0 ≡ length xs → AreCovered sets (length xs + 1)) → ys ≡ put_at xs zone p cell
    → AreCovered sets (length ys)
covered-put sets xs ys zone p cell now end is =
    let long : length ys ≡ length (grown_to xs zone p.0) =
    ap length is ∙ length-change_at (with_cell p.1 cell) (grown_to xs zone p.0) p.0 in
    elim (cases_eq p.0 (length xs)) [
      | inl e ↦ covered-less sets (length ys) (length xs + 1) (let most = grown-most xs zone p.0 in omega arith) (end e)
      | inr n ↦ covered-less sets (length ys) (length xs) (let same = grown-same xs zone p.0 n in omega arith) now
    ]

-- other cells are delayed
pub covered-delayed : (store : StoreState) (index : IndexState) (out : List ℕ) (old new : DelayedSets) (made held : ℕ)
    (reserved : Option Reserved) → AreArenas store index out old made held reserved → IsAsRoomy old new
    → AreArenas store index out new made held reserved
covered-delayed store index out old new made held reserved h roomy = record {
  indexed = h.indexed;
  out_of = h.out_of;
  covered = roomy (length store.arenas) h.covered;
  empty = h.empty;
  few = h.few;
  counted = h.counted;
  fewer = h.fewer;
  kept = λ r e. (let k = h.kept r e in record {
    zone = k.zone;
    place = k.place;
    few = k.few;
    room = k.room;
    out_room = k.out_room;
    covered = λ end. roomy (length store.arenas + 1) (k.covered end);
  });
}

-- none was delayed, and nothing changed
pub none-delayed : (s now : ArenasState) (old new : Piles) (pile : Pile) (o : Option Place)
    → record s { delayed = old } ≡ now → IfNone o ((pile_of old pile ≡ []) × (new ≡ old))
    → IfNone o ((pile_of now.delayed pile ≡ []) × (record s { delayed = new } ≡ now))
none-delayed s now old new pile None v none = (
  subst (λ (z : ArenasState). pile_of z.delayed pile ≡ []) v none.0,
  ap (λ (d : Piles). record s { delayed = d }) none.1 ∙ v,
)
none-delayed s now old new pile (Some p) v none = tt
