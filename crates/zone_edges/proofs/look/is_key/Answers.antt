use Rattle.std.proofs.Common.{◌≡◌, ◌∙◌, ◌↔◌, ℕ, zero, suc, List, [], ◌∷◌, Option, Some, None, Contains, IsTrue, Bool}
use Rattle.std.proofs.Common.{true, false}
use Rattle.std.proofs.Common.{ap, arith, is_some, refl, slice_get, subst, sym}
use Rattle.gz_names.specs.declared.numbers.Place.{Place}
use Rattle.heap_core.specs.Shape.{IsDelegate, Shape}
use Rattle.weak_maps.specs.declared.entries.WeakEntry.{WeakEntry}
use Rattle.weak_maps.specs.Delegates.{DelegateRow, delegate_at}
use Rattle.weak_maps.specs.WeakMaps.{IsSound, listed_of_key, value_of}
use Rattle.zone_edges.specs.Looks.{AreDelegated, IsKey}
use Rattle.zone_edges.proofs.look.is_key.Goals as goal

-- the first of a list is there exactly where something is listed
first_stands : (xs : List WeakEntry) (e : WeakEntry) → slice_get xs 0 ≡ Some e → Contains xs e
first_stands [] e at = cc at
first_stands (x ∷ xs) e at = (zero, omega arith, let same : x ≡ e = cc at in same)

stands_first : (xs : List WeakEntry) (e : WeakEntry) → Contains xs e → is_some (slice_get xs 0) ≡ true
stands_first [] e has = absurd (let below = has.1 in omega (arith, below))
stands_first (x ∷ xs) e has = refl

-- what is listed for a key is the entry of some map
listed_key : (s : Shape) (w : Place) (o : Option WeakEntry) → IsSound s.weak → o ≡ slice_get (listed_of_key s.weak w) 0
    → is_some o ≡ true → IsKey s w
listed_key s w None sound at some = absurd (cc some)
listed_key s w (Some e) sound at some =
    let found = ((sound.of_key w).exact e).0 (first_stands (listed_of_key s.weak w) e (sym at)) in
    let there : value_of s.weak e.map e.key ≡ Some e.value = (sound.found e.map e.key e.value).0 found.0 in
    (e.map, e.value, subst (λ k. value_of s.weak e.map k ≡ Some e.value) found.1 there)

key_listed : (s : Shape) (w : Place) (o : Option WeakEntry) → IsSound s.weak → o ≡ slice_get (listed_of_key s.weak w) 0
    → IsKey s w → is_some o ≡ true
key_listed s w o sound at key =
    let e : WeakEntry = record { map = key.0; key = w; value = key.1 } in
    let there = ((sound.of_key w).exact e).1 ((sound.found key.0 w key.1).1 key.2, refl) in
    ap is_some at ∙ stands_first (listed_of_key s.weak w) e there

-- without rows no wrapper is a key
no_rows : (rows : List DelegateRow) (m k d : Place) → (rows ≡ [] → ⊥) ↔ (false ≡ true)
    → delegate_at rows m k ≡ Some d → ⊥
no_rows [] m k d none at = cc at
no_rows (r ∷ rows) m k d none at =
    let some : r ∷ rows ≡ [] → ⊥ = λ (e : r ∷ rows ≡ []). cc e in
    let both = none.0 some in cc both

pub returns-then-has_delegates : goal.returns-then-has_delegates
returns-then-has_delegates c =
    let s = c.args.heap.now.shape in
    let listed = c.entries_of_key.ensures in (
      λ some. listed_key s c.args.wrapper c.entries_of_key.result listed.sound listed.entry
          (sym c.is_some.ensures ∙ some),
      λ key. c.is_some.ensures ∙ key_listed s c.args.wrapper c.entries_of_key.result listed.sound listed.entry key,
    )

pub returns-else-has_delegates : goal.returns-else-has_delegates
returns-else-has_delegates c =
    let s = c.args.heap.now.shape in (
      λ some. absurd (cc (some, c.if-has_delegates.false)),
      λ key. absurd (
          let at = c.requires.delegated key.0 c.args.wrapper key.1 c.requires.wrapper.0 key.2 c.requires.wrapper.1 in
          let none = c.has_delegates.ensures in
          no_rows s.weak.delegates.rows key.0 c.args.wrapper c.requires.wrapper.0
          (subst (λ (b : Bool). (s.weak.delegates.rows ≡ [] → ⊥) ↔ (b ≡ true)) c.if-has_delegates.false
          (none.1, none.0))
          at
          ),
    )
