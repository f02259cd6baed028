-- What a new wrapper changes in the heap.
use Rattle.std.proofs.Common.{◌≡◌, ◌<◌, ◌≤◌, ◌+◌, ◌==◌, ◌&&◌, ◌++◌, inl, inr, ℕ, zero, suc, Bool, true, false, List, []}
use Rattle.std.proofs.Common.{◌∷◌, length, Option, Some, None, IsSomeAnd, IfSome, slice_get, if◌then◌else◌, option_map}
use Rattle.std.proofs.Common.{eq-eqb, refl, sym, ◌∙◌, ap, subst, arith, set, get_or-set_same, get_or-set_other}
use Rattle.std.proofs.lemmas.Bool.{and_from, cases_lt}
use Rattle.gz_names.specs.declared.names.Name.TheVariants.{Wrap}
use Rattle.gz_names.specs.declared.numbers.CompNo.{CompNo}
use Rattle.gz_names.specs.declared.numbers.Place.{Place}
use Rattle.gz_names.specs.declared.commands.Kind.TheVariants as kind
use Rattle.arena_table.specs.Cells.{CellState, with_value}
use Rattle.arena_table.specs.Slots.{Arena, cell_at, change_at, with_cell, with_field}
use Rattle.arena_table.specs.Placement.{place_for}
use Rattle.arena_table.specs.Table.{ArenasState, grown_to, is_place, new_cell, put_at}
use Rattle.arena_table.proofs.Changing.{length-change_at}
use Rattle.wrappers.specs.WrapperMaps.{WrappersState, add_at, list_at, list_of, place_of}
use Rattle.heap_core.specs.Shape.{IsPresent, is_prepared}
use Rattle.heap_core.specs.Heap.{HeapState}
use Rattle.heap_core.specs.Births.{ColoursAtBirth}
use Rattle.heap_core.specs.Changes.{MakesWrapper, wrapper_cell}
use Rattle.heap_core.proofs.Views.{with_state}
use Rattle.heap_core.proofs.MakingCells.{IsMade, length-grown, makes-seen, put-kept, put-state, put-with_field}
use Rattle.heap_core.proofs.WritingFields.{present-within}

-- the cell before its target is written
abbrev bare : CompNo → ℕ → CellState
bare comp number = new_cell kind.Wrapper comp (Wrap comp number)

-- a place was kept, and the wrapper put there: the arenas before, with the place kept, and after
pub record IsPut (s r u : ArenasState) (zone : ℕ) (comp : CompNo) (number : ℕ) (p : Place) : Type 0 where
  pub place_is : p ≡ place_for s.arenas zone
  pub below : zone < 64
  pub free : cell_at s.arenas p ≡ None
  pub kept : r ≡ record s { reserved = Some (record { zone = zone; place = p }) }
  pub put : IfSome r.reserved
      (λ k. u ≡ record r { arenas = put_at r.arenas k.zone p (bare comp number); made = r.made + 1; reserved = None })

put-is : (s r u : ArenasState) (zone : ℕ) (comp : CompNo) (number : ℕ) (p : Place) → IsPut s r u zone comp number p
    → u ≡ record s { arenas = put_at s.arenas zone p (bare comp number); made = s.made + 1; reserved = None }
put-is s r u zone comp number p h = put-state s r u zone p (bare comp number) h.kept h.put

no-fewer : (b : Bool) (n : ℕ) → n ≤ (if b then n + 1 else n)
no-fewer true n = omega arith
no-fewer false n = omega arith

pub target-within : (h k : HeapState) (s r u : ArenasState) (zone : ℕ) (comp : CompNo) (number : ℕ) (p target : Place)
    → with_state h s ≡ k → IsPresent k.shape target → IsPut s r u zone comp number p → (x : Place)
    → Some target ≡ Some x → x.0 < length u.arenas
target-within h k s r u zone comp number p target e held put x f =
    let within = present-within (with_state h s).shape s.arenas target refl
    (subst (λ (k : HeapState). IsPresent k.shape target) (sym e) held) in
    let long : length u.arenas ≡ (if p.0 == length s.arenas then length s.arenas + 1 else length s.arenas) =
    ap (λ (y : ArenasState). length y.arenas) (put-is s r u zone comp number p put)
    ∙ (length-change_at (with_cell p.1 (bare comp number)) (grown_to s.arenas zone p.0) p.0
    ∙ length-grown s.arenas zone p.0) in
    let more = no-fewer (p.0 == length s.arenas) (length s.arenas) in
    let same : x.0 ≡ target.0 = ap (λ (o : Option Place). first-of target o) (sym f) in
    rw (same, long) (omega arith)
  where
    first-of : Place → Option Place → ℕ
    first-of d None = d.0
    first-of d (Some y) = y.0

-- the target is written
written-is : (s r u x : ArenasState) (zone : ℕ) (comp : CompNo) (number : ℕ) (p target : Place)
    → IsPut s r u zone comp number p → x ≡ record u { arenas = change_at (with_field p.1 0 (Some target)) u.arenas p.0 }
    → (x.arenas ≡ put_at s.arenas zone p (wrapper_cell comp number target)) × (x.made ≡ s.made + 1)
written-is s r u x zone comp number p target put e = (
  ap (λ (y : ArenasState). y.arenas) e
      ∙ (ap (λ (y : ArenasState). change_at (with_field p.1 0 (Some target)) y.arenas p.0)
      (put-is s r u zone comp number p put) ∙ put-with_field s.arenas zone p (bare comp number) 0 (Some target)),
  ap (λ (y : ArenasState). y.made) e ∙ ap (λ (y : ArenasState). y.made) (put-is s r u zone comp number p put),
)

pub written-kept : (s r u x : ArenasState) (zone : ℕ) (comp : CompNo) (number : ℕ) (p target : Place)
    → IsPut s r u zone comp number p → x ≡ record u { arenas = change_at (with_field p.1 0 (Some target)) u.arenas p.0 }
    → IsSomeAnd (slice_get x.arenas p.0) (λ y. y.is_out ≡ false)
written-kept s r u x zone comp number p target put e =
    subst (λ (xs : List Arena). IsSomeAnd (slice_get xs p.0) (λ y. y.is_out ≡ false))
    (sym (written-is s r u x zone comp number p target put e).0)
    (put-kept s.arenas zone p (wrapper_cell comp number target) put.place_is)

pub wrapper-made : (s r u x t : ArenasState) (zone : ℕ) (comp : CompNo) (number : ℕ) (p target : Place)
    → IsPut s r u zone comp number p
    → ((q : Place) → cell_at u.arenas q ≡ (if is_place q p then Some (bare comp number) else cell_at r.arenas q))
    → x ≡ record u { arenas = change_at (with_field p.1 0 (Some target)) u.arenas p.0 }
    → ((q : Place) → cell_at x.arenas q
    ≡ (if is_place q p then option_map (with_value 0 (Some target)) (cell_at u.arenas q) else cell_at u.arenas q))
    → (is_kept : Bool) → ColoursAtBirth is_kept x p t
    → IsMade s t zone p (wrapper_cell comp number target) is_kept
wrapper-made s r u x t zone comp number p target put cells e written is_kept b = record {
  put = x.arenas;
  bits = b.bits;
  place_is = put.place_is;
  below = put.below;
  free = put.free;
  put_is = (written-is s r u x zone comp number p target put e).0;
  cells = λ q. written q
      ∙ (ap (λ c. if is_place q p then option_map (with_value 0 (Some target)) c else c) (cells q)
      ∙ (by q (is_place q p)
      ∙ ap (λ (y : ArenasState). if is_place q p then Some (wrapper_cell comp number target) else cell_at y.arenas q)
      put.kept));
  arenas_is = ap (λ (y : ArenasState). y.arenas) b.new_is;
  made_is = ap (λ (y : ArenasState). y.made) b.new_is ∙ (written-is s r u x zone comp number p target put e).1;
  delayed_is = ap (λ (y : ArenasState). y.delayed) b.new_is
      ∙ (ap (λ (y : ArenasState). y.delayed) e
      ∙ ap (λ (y : ArenasState). y.delayed) (put-is s r u zone comp number p put));
  marks = b.marks;
}
  where
    by : (q : Place) (t : Bool)
        → (if t then option_map (with_value 0 (Some target)) (if t then Some (bare comp number) else cell_at r.arenas q)
        else (if t then Some (bare comp number) else cell_at r.arenas q))
        ≡ (if t then Some (wrapper_cell comp number target) else cell_at r.arenas q)
    by q true = refl
    by q false = refl

-- the wrapper maps after it was added
past-end : {X : Type 0} (xs : List X) (i : ℕ) (x : X) → length xs ≤ i → set xs i x ≡ xs
past-end [] i x le = refl
past-end (y ∷ ys) zero x le = absurd (omega arith)
past-end (y ∷ ys) (suc i) x le = ap (λ zs. y ∷ zs) (past-end ys i x (omega arith))

pub record IsAdded (old new : WrappersState) (zone comp number : ℕ) (p : Place) : Type 0 where
  pub added : new ≡ record { lists = add_at old.lists zone (record { comp = comp; target = number }) p }
  pub found : (c t : ℕ) → place_of new c t ≡ (if (c == comp) && (t == number) then Some p else place_of old c t)
  pub absent : place_of old comp number ≡ None

listed-in : (old new : WrappersState) (zone comp number : ℕ) (p : Place) → IsAdded old new zone comp number p
    → zone < length old.lists
listed-in old new zone comp number p h = elim (cases_lt zone (length old.lists)) [
  | inl lt ↦ lt
  | inr le ↦ (
      let same : place_of new comp number ≡ None =
      ap (λ (w : WrappersState). place_of w comp number)
      (h.added ∙ ap (λ ls. record { lists = ls })
      (past-end old.lists zone (list_at old.lists zone ++ (record { comp = comp; target = number }, p) ∷ []) le))
      ∙ h.absent in
      let there : place_of new comp number ≡ Some p = h.found comp number
      ∙ ap (λ b. if b then Some p else place_of old comp number)
      (and_from (comp == comp) (number == number) (eq-eqb _ _ refl) (eq-eqb _ _ refl)) in
      absurd (cc (same, there)))
]

pub wrapper-seen : (h k : HeapState) (s t : ArenasState) (old new : WrappersState) (zone : ℕ) (comp : CompNo)
    (number : ℕ) (p target : Place) → with_state h s ≡ k → k.shape.wrappers ≡ old
    → (is_kept : Bool) → IsMade s t zone p (wrapper_cell comp number target) is_kept
    → IsAdded old new zone comp.0 number p → is_kept ≡ is_prepared (with_state h s).shape zone
    → MakesWrapper k zone comp number target p
    (record (with_state h t) { shape = record (with_state h t).shape { wrappers = new } })
wrapper-seen h k s t old new zone comp number p target e w is_kept m a same = record {
  made = with_state h t;
  makes = makes-seen h k s t zone p (wrapper_cell comp number target) e is_kept m same;
  rest = refl;
  found = λ c u. a.found c u
      ∙ ap (λ (x : WrappersState). if (c == comp.0) && (u == number) then Some p else place_of x c u) (sym w);
  listed = ap (λ (x : WrappersState). list_of x zone) a.added
      ∙ (get_or-set_same old.lists zone (list_at old.lists zone ++ (record { comp = comp.0; target = number }, p) ∷ [])
      [] (listed-in old new zone comp.0 number p a)
      ∙ ap (λ (x : WrappersState). list_of x zone ++ (record { comp = comp.0; target = number }, p) ∷ []) (sym w));
  others = λ z n. ap (λ (x : WrappersState). list_of x z) a.added
      ∙ (get_or-set_other old.lists zone z (list_at old.lists zone ++ (record { comp = comp.0; target = number }, p)
      ∷ []) [] n ∙ ap (λ (x : WrappersState). list_of x z) (sym w));
}
