-- Cells that lead to where their cells have gone.
use Rattle.std.proofs.Common.{◌≡◌, ◌≢◌, ◌⊎◌, ◌<◌, ◌≤◌, ◌+◌, ℕ, zero, suc, Bool, true, false, List, [], ◌∷◌, length, map}
use Rattle.std.proofs.Common.{All, Option}
use Rattle.std.proofs.Common.{Some, None, IsSome, option_map, if◌then◌else◌, inl, inr, refl, sym, ◌∙◌, ap}
use Rattle.std.proofs.Common.{subst}
use Rattle.std.proofs.Common.{slice_get, arith}
use Rattle.std.proofs.lemmas.Bool.{cases_eq}
use Rattle.std.proofs.lemmas.Option.{none-some, same_Some}
use Rattle.std.proofs.lemmas.List.{length-map}
use Rattle.gz_names.specs.Moves.{IsGoal, IsLeft, moved}
use Rattle.gz_names.specs.declared.moves.Move.{Move}
use Rattle.gz_names.specs.declared.numbers.Place.{Place}
use Rattle.gz_names.specs.declared.zone_sets.ZoneSet.{ZoneSet}
use Rattle.gz_names.proofs.Moving.{contained, moved-cases, moved-stays, same-true}
use Rattle.arena_table.specs.Cells.{CellState}
use Rattle.arena_table.specs.Moving.{forwarded, forwarded_at}
use Rattle.arena_table.specs.Slots.{Arena, cell_at, change_at, change_cell}
use Rattle.arena_table.specs.Table.{ArenasState, is_place}
use Rattle.wrappers.specs.TargetZones.{IsNoted}
use Rattle.wrappers.specs.WrapperMaps.{WrappersState, list_of}
use Rattle.wrappers.specs.declared.wrapper_maps.WrapperKey.{WrapperKey}
use Rattle.heap_core.specs.Moving.{Forwards, IsListedIn, LeadsInto, MayForward, bare, listed_at}

-- what is gone to is not left, so that no cell goes twice
module _ (moves : List Move) (clear : (p : Place) → IsLeft moves p → IsGoal moves p → ⊥) where
  pub moved-twice : (p : Place) → moved moves (moved moves p) ≡ moved moves p
  moved-twice p = elim (moved-cases moves p) [
    | inl w ↦ moved-stays moves (moved moves p) (λ left. clear (moved moves p) left
        (w.1, contained moves w.0 w.1 w.2, sym w.4))
    | inr s ↦ ap (moved moves) s.0
  ]

  fields-twice : (os : List (Option Place))
      → map (option_map (moved moves)) (map (option_map (moved moves)) os) ≡ map (option_map (moved moves)) os
  fields-twice [] = refl
  fields-twice (None ∷ os) = ap (λ ys. None ∷ ys) (fields-twice os)
  fields-twice (Some p ∷ os) =
      ap (λ q. Some q ∷ map (option_map (moved moves)) (map (option_map (moved moves)) os)) (moved-twice p)
      ∙ ap (λ ys. Some (moved moves p) ∷ ys) (fields-twice os)

  pub forwarded-twice : (o : Option CellState)
      → option_map (forwarded moves) (option_map (forwarded moves) o) ≡ option_map (forwarded moves) o
  forwarded-twice None = refl
  forwarded-twice (Some cell) =
      ap (λ (fields : List (Option Place)). Some (record cell { fields = fields })) (fields-twice cell.fields)

-- an arena's other parts
abbrev pub no_cell : Option CellState → Option CellState
no_cell o = None

bare-slots : (f : Option CellState → Option CellState) (slots : List (Option CellState)) (s : ℕ)
    → map no_cell (change_at f slots s) ≡ map no_cell slots
bare-slots f [] s = refl
bare-slots f (x ∷ slots) zero = refl
bare-slots f (x ∷ slots) (suc s) = ap (λ ys. None ∷ ys) (bare-slots f slots s)

bare-at : (moves : List Move) (s : ℕ) (x : Arena) → bare (forwarded_at moves s x) ≡ bare x
bare-at moves s x = ap (λ (slots : List (Option CellState)). record x { slots = slots })
    (bare-slots (change_cell (forwarded moves)) x.slots s)

bare-change : (f : Arena → Arena) → ((x : Arena) → bare (f x) ≡ bare x) → (xs : List Arena) (a : ℕ)
    → map bare (change_at f xs a) ≡ map bare xs
bare-change f same [] a = refl
bare-change f same (x ∷ xs) zero = ap (λ y. y ∷ map bare xs) (same x)
bare-change f same (x ∷ xs) (suc a) = ap (λ ys. bare x ∷ ys) (bare-change f same xs a)

pub length-bare : (xs ys : List Arena) → map bare ys ≡ map bare xs → length ys ≡ length xs
length-bare xs ys same = sym (length-map ys bare) ∙ ap length same ∙ length-map xs bare

-- none, and one
pub forwards-none : (Those : Place → Type 0) (moves : List Move) (s : ArenasState) → ((p : Place) → Those p → ⊥)
    → Forwards Those moves s s
forwards-none Those moves s none = record {
  rest = refl;
  kept = refl;
  those = λ p t. absurd (none p t);
  others = λ p. inl refl;
}

pub forwards-one : (moves : List Move) (s t : ArenasState) (w : Place)
    → t ≡ record s { arenas = change_at (forwarded_at moves w.1) s.arenas w.0 }
    → ((p : Place) → cell_at t.arenas p
    ≡ (if is_place p w then option_map (forwarded moves) (cell_at s.arenas p) else cell_at s.arenas p))
    → Forwards (λ p. p ≡ w) moves s t
forwards-one moves s t w is cells = record {
  rest = is ∙ ap (λ (xs : List Arena). record s { arenas = xs }) (sym (ap (λ (x : ArenasState). x.arenas) is));
  kept = ap (λ (x : ArenasState). map bare x.arenas) is
      ∙ bare-change (forwarded_at moves w.1) (bare-at moves w.1) s.arenas w.0;
  those = λ p e. cells p
      ∙ ap (λ b. if b then option_map (forwarded moves) (cell_at s.arenas p) else cell_at s.arenas p)
      (ap (λ q. is_place q w) e ∙ same-true w);
  others = λ p. by p (is_place p w) (cells p);
}
  where
    by : (p : Place) (b : Bool)
        → cell_at t.arenas p ≡ (if b then option_map (forwarded moves) (cell_at s.arenas p) else cell_at s.arenas p)
        → (cell_at t.arenas p ≡ cell_at s.arenas p)
        ⊎ (cell_at t.arenas p ≡ option_map (forwarded moves) (cell_at s.arenas p))
    by p true e = inr e
    by p false e = inl e

-- some, and then others
pub record ForwardsBoth (These Then Those : Place → Type 0) (moves : List Move) (s t u : ArenasState) : Type 0 where
  pub clear : (p : Place) → IsLeft moves p → IsGoal moves p → ⊥
  pub first : Forwards These moves s t
  pub last : Forwards Then moves t u
  pub either : (p : Place) → Those p → These p ⊎ Then p

pub forwards-then : (These Then Those : Place → Type 0) (moves : List Move) (s t u : ArenasState)
    → ForwardsBoth These Then Those moves s t u → Forwards Those moves s u
forwards-then These Then Those moves s t u c = record {
  rest = c.last.rest ∙ ap (λ (x : ArenasState). record x { arenas = u.arenas }) c.first.rest;
  kept = c.last.kept ∙ c.first.kept;
  those = λ p those. elim (c.either p those) [
    | inl one ↦ elim (c.last.others p) [
      | inl same ↦ same ∙ c.first.those p one
      | inr gone ↦ gone ∙ after p
    ]
    | inr two ↦ c.last.those p two ∙ after p
  ];
  others = λ p. elim (c.last.others p) [
    | inl same ↦ elim (c.first.others p) [
      | inl kept ↦ inl (same ∙ kept)
      | inr gone ↦ inr (same ∙ gone)
    ]
    | inr gone ↦ inr (gone ∙ after p)
  ];
}
  where
    after : (p : Place) → option_map (forwarded moves) (cell_at t.arenas p)
        ≡ option_map (forwarded moves) (cell_at s.arenas p)
    after p = elim (c.first.others p) [
      | inl same ↦ ap (option_map (forwarded moves)) same
      | inr gone ↦ ap (option_map (forwarded moves)) gone ∙ forwarded-twice moves c.clear (cell_at s.arenas p)
    ]

-- more may be forwarded then
pub may-forward : (Those : Place → Type 0) (moves : List Move) (w : WrappersState) (s t : ArenasState)
    → Forwards Those moves s t → MayForward s.arenas w moves → MayForward t.arenas w moves
may-forward Those moves w s t went may = record {
  standing = λ z k p listed. elim (went.others p) [
    | inl same ↦ subst IsSome (sym same) (may.standing z k p listed)
    | inr gone ↦ subst IsSome (sym gone) (some (cell_at s.arenas p) (may.standing z k p listed))
  ];
  inside = subst (λ n. All (λ (m : Move). m.to.0 < n) moves) (sym (length-bare s.arenas t.arenas went.kept))
      may.inside;
  clear = may.clear;
}
  where
    some : (o : Option CellState) → IsSome o → IsSome (option_map (forwarded moves) o)
    some None is = is
    some (Some cell) is = is

-- the wrappers of a zone that stand before an index of its list
pub record IsListedBefore (w : WrappersState) (z n : ℕ) (p : Place) : Type 0 where
  pub index : ℕ
  pub below : index < n
  pub listed : listed_at w z index ≡ Some p

-- what leads into a zone out of the zones below this one
pub record LeadsFromBelow (w : WrappersState) (noted : List ZoneSet) (zone n : ℕ) (p : Place) : Type 0 where
  pub leads : LeadsInto w noted zone p
  pub under : leads.from < n

pub none-before : (w : WrappersState) (z : ℕ) (p : Place) → IsListedBefore w z 0 p → ⊥
none-before w z p is = (let lt = is.below in omega (arith, lt))

-- one more of the list, and the end of it
pub before-more : (w : WrappersState) (z n m : ℕ) (q : Place) → listed_at w z n ≡ Some q → m ≡ n + 1 → (p : Place)
    → IsListedBefore w z m p → IsListedBefore w z n p ⊎ (p ≡ q)
before-more w z n m q at next p is = elim (cases_eq is.index n) [
  | inl same ↦ inr (same_Some p q (sym is.listed ∙ ap (listed_at w z) same ∙ at))
  | inr other ↦ inl (record {
    index = is.index;
    below = (let lt = is.below in omega (arith, lt, other, next));
    listed = is.listed;
  })
]

listed-within : (es : List (WrapperKey × Place)) (k : ℕ) (p : Place)
    → option_map (λ (e : WrapperKey × Place). e.1) (slice_get es k) ≡ Some p → k < length es
listed-within [] k p at = absurd (none-some p at)
listed-within (e ∷ es) zero p at = omega arith
listed-within (e ∷ es) (suc k) p at = (let rest = listed-within es k p at in omega (arith, rest))

listed-none : (es : List (WrapperKey × Place)) (n : ℕ)
    → option_map (λ (e : WrapperKey × Place). e.1) (slice_get es n) ≡ None → length es ≤ n
listed-none [] n none = omega arith
listed-none (e ∷ es) zero none = absurd (none-some e.1 (sym none))
listed-none (e ∷ es) (suc n) none = (let rest = listed-none es n none in omega (arith, rest))

pub within-list : (w : WrappersState) (z n : ℕ) (p : Place) → listed_at w z n ≡ Some p → n < length (list_of w z)
within-list w z n p at = listed-within (list_of w z) n p at

pub before-end : (w : WrappersState) (z n : ℕ) → listed_at w z n ≡ None → (p : Place) → IsListedIn w z p
    → IsListedBefore w z n p
before-end w z n none p is = record {
  index = is.index;
  below = (let past = listed-none (list_of w z) n none in
      let lt = listed-within (list_of w z) is.index p is.listed in omega (arith, past, lt));
  listed = is.listed;
}

pub forwards-fewer : (Those More : Place → Type 0) (moves : List Move) (s t : ArenasState) → Forwards Those moves s t
    → ((p : Place) → More p → Those p) → Forwards More moves s t
forwards-fewer Those More moves s t went more = record {
  rest = went.rest;
  kept = went.kept;
  those = λ p m. went.those p (more p m);
  others = went.others;
}

-- the zones below a number, and one more of them
pub none-below : (w : WrappersState) (noted : List ZoneSet) (zone : ℕ) (p : Place) → LeadsFromBelow w noted zone 0 p → ⊥
none-below w noted zone p is = (let lt = is.under in omega (arith, lt))

module _ (w : WrappersState) (noted : List ZoneSet) (zone n m : ℕ) (next : m ≡ n + 1) where
  pub below-more : (p : Place) → LeadsFromBelow w noted zone m p → LeadsFromBelow w noted zone n p ⊎ IsListedIn w n p
  below-more p is = elim (cases_eq is.leads.from n) [
    | inl same ↦ inr (subst (λ z. IsListedIn w z p) same is.leads.listed)
    | inr other ↦ inl (record {
      leads = is.leads;
      under = (let lt = is.under in omega (arith, lt, other, next));
    })
  ]

  pub below-skip : (n < 64 → n ≢ zone → IsNoted noted n zone → ⊥) → (p : Place)
      → LeadsFromBelow w noted zone m p → LeadsFromBelow w noted zone n p
  below-skip none p is = elim (cases_eq is.leads.from n) [
    | inl same ↦ absurd (none (let lt = is.leads.below in omega (arith, lt, same))
        (λ e. is.leads.other (same ∙ e)) (subst (λ z. IsNoted noted z zone) same is.leads.is_noted))
    | inr other ↦ record {
      leads = is.leads;
      under = (let lt = is.under in omega (arith, lt, other, next));
    }
  ]

pub below-all : (w : WrappersState) (noted : List ZoneSet) (zone n : ℕ) → 64 ≤ n → (p : Place)
    → LeadsInto w noted zone p → LeadsFromBelow w noted zone n p
below-all w noted zone n all p is = record { leads = is; under = (let lt = is.below in omega (arith, lt, all)) }
