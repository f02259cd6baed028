-- Each entry stands in the list of its own place, whatever is done.
use Rattle.std.proofs.Common.{◌≡◌, ◌≢◌, ◌<◌, ◌-◌, ◌++◌, ◌∷◌, [], inl, inr, ℕ, Bool, true, false, cond, List, Option}
use Rattle.std.proofs.Common.{Some, None, is_some, if◌then◌else◌, length, map, take, set, get_or, slice_get, refl, sym}
use Rattle.std.proofs.Common.{◌∙◌, ap, subst, arith, length-append}
use Rattle.std.specs.List.{swap_remove}
use Rattle.std.proofs.lemmas.List.{length-map, map-append, get_or_default}
use Rattle.std.specs.Option.{option_map}
use Rattle.std.proofs.lemmas.Option.{slice_get_within, slice_get-get_or, slice_get-map}
use Rattle.weak_maps.specs.declared.colours.MarkColour.{MarkColour}
use Rattle.weak_maps.specs.declared.colours.MarkColour.TheVariants as colour
use Rattle.gz_names.specs.declared.numbers.Place.{Place}
use Rattle.weak_maps.specs.Heads.{no_heads}
use Rattle.weak_maps.specs.Places.{is_same}
use Rattle.weak_maps.specs.Sides.{SideState, IsSide, IsAdded, IsUndone, Starts as StartsLists, number_of, shown}
use Rattle.weak_maps.specs.Entries.{AreDistinct, AreTied, CarriesEntries, EntriesState, HaveLooks, state_of}
use Rattle.weak_maps.specs.Entries.{IsFor, IsLeftOf, Starts, is_entry, put_at, table_of, value_at}
use Rattle.weak_maps.specs.declared.entries.WeakEntry.{WeakEntry}
use Rattle.weak_maps.proofs.Places.{is_same-true, is_same-self}
use Rattle.weak_maps.proofs.SwapRemove.{swap_remove-map}
use Rattle.weak_maps.proofs.Reading.{map_at, length-swap_remove, swap_remove_cases, swap_remove_here, swap_remove_other}
use Rattle.weak_maps.proofs.Table.{length-put_at}

pub IsFor-length : {E : Type 0} (f : E → Place) (entries : List E) (side : SideState) → IsFor f entries side
    → length side.owners ≡ length entries
IsFor-length f entries side is = sym (length-map side.owners (λ j. Some j))
    ∙ (ap length (sym is.numbers) ∙ length-map entries (λ e. number_of side (f e)))

pub swap_remove-default : {X : Type 0} (xs : List X) (n : ℕ) (d e : X) → 0 < length xs
    → swap_remove xs n d ≡ swap_remove xs n e
swap_remove-default xs n d e h =
    ap (λ y. take (length xs - 1) (set xs n y)) (get_or_default xs (length xs - 1) d e (omega arith))

numbers-of : {E : Type 0} (f : E → Place) (side new : SideState)
    → ((q : Place) (k : ℕ) → number_of side q ≡ Some k → number_of new q ≡ Some k)
    → (entries : List E) (owners : List ℕ) → map (λ e. number_of side (f e)) entries ≡ map (λ j. Some j) owners
    → map (λ e. number_of new (f e)) entries ≡ map (λ j. Some j) owners
numbers-of f side new keep [] owners h = h
numbers-of f side new keep (e ∷ entries) [] h = cc (ap length h)
numbers-of f side new keep (e ∷ entries) (j ∷ owners) h =
    let first : number_of side (f e) ≡ Some j = ap (λ ns. get_or ns 0 None) h in
    let rest = numbers-of f side new keep entries owners (ap (λ ns. tail ns) h) in λ i. keep (f e) j first i ∷ rest i
  where
    tail : List (Option ℕ) → List (Option ℕ)
    tail [] = []
    tail (n ∷ ns) = ns

-- the places keep their numbers as one comes
kept-number : (side new : SideState) (p : Place) → IsAdded side p new → (q : Place) (k : ℕ) → number_of side q ≡ Some k
    → number_of new q ≡ Some k
kept-number side new p added q k h = added.numbers q ∙ by (is_same p q) refl
  where
    by : (b : Bool) → is_same p q ≡ b → cond b (Some added.number) (number_of side q) ≡ Some k
    by true e = ap (λ n. Some n) (sym (added.was k (ap (number_of side) (is_same-true p q e) ∙ h)))
    by false e = h

pub IsFor-added : {E : Type 0} (f : E → Place) (entries : List E) (side new : SideState) (entry : E)
    → IsFor f entries side → IsAdded side (f entry) new → IsSide new → IsFor f (entries ++ entry ∷ []) new
IsFor-added f entries side new entry is added sound = record {
  sound = sound;
  numbers = map-append (λ e. number_of new (f e)) entries (entry ∷ [])
      ∙ ((λ i. numbers-of f side new (kept-number side new (f entry) added) entries side.owners is.numbers i ++ own i
      ∷ []) ∙ (sym (map-append (λ j. Some j) side.owners (added.number ∷ []))
      ∙ ap (map (λ j. Some j)) (sym added.owners)));
}
  where
    own : number_of new (f entry) ≡ Some added.number
    own = added.numbers (f entry) ∙ ap (λ b. cond b (Some added.number) (number_of side (f entry)))
        (is_same-self (f entry))

-- where it is taken back
pub IsFor-undone : {E : Type 0} (f : E → Place) (entries : List E) (side mid new : SideState) (p : Place)
    → IsFor f entries side → IsAdded side p mid → IsUndone side mid new → IsSide new → IsFor f entries new
IsFor-undone f entries side mid new p is added undone sound = record {
  sound = sound;
  numbers = numbers-of f side new (λ q k h. same q ∙ kept-number side mid p added q k h) entries side.owners is.numbers
      ∙ ap (map (λ j. Some j)) (sym undone.owners);
}
  where
    same : (q : Place) → number_of new q ≡ number_of mid q
    same q = ap (λ hs. number_of (record { heads = hs; lists = []; owners = []; left = [] }) q) undone.heads

-- an entry goes
pub IsFor-taken : {E : Type 0} (f : E → Place) (entries : List E) (side new : SideState) (n : ℕ) (d : E)
    → n < length entries → IsFor f entries side → new.heads ≡ side.heads → new.owners ≡ swap_remove side.owners n 0
    → IsSide new → IsFor f (swap_remove entries n d) new
IsFor-taken f entries side new n d less is heads owners sound = record {
  sound = sound;
  numbers = sym (swap_remove-map (λ e. number_of new (f e)) entries n d)
      ∙ (ap (λ ns. swap_remove ns n (number_of new (f d)))
      (numbers-of f side new (λ q k h. same q ∙ h) entries side.owners is.numbers)
      ∙ (swap_remove-default (map (λ j. Some j) side.owners) n (number_of new (f d)) (Some 0) (omega (arith, len, less))
      ∙ (swap_remove-map (λ j. Some j) side.owners n 0 ∙ ap (map (λ j. Some j)) (sym owners))));
}
  where
    same : (q : Place) → number_of new q ≡ number_of side q
    same q = ap (λ hs. number_of (record { heads = hs; lists = []; owners = []; left = [] }) q) heads

    len : length (map (λ j. Some j) side.owners) ≡ length entries
    len = length-map side.owners (λ j. Some j) ∙ IsFor-length f entries side is

-- a value is written
pub IsFor-put : (f : WeakEntry → Place) (entries : List WeakEntry) (side : SideState) (m k v w : Place)
    → ((e : WeakEntry) (v : Place) → f (record { map = e.map; key = e.key; value = v }) ≡ f e)
    → value_at entries m k ≡ Some w → IsFor f entries side → IsFor f (put_at entries m k v) side
IsFor-put f entries side m k v w alike there is = record { sound = is.sound; numbers = same entries there ∙ is.numbers }
  where
    same : (es : List WeakEntry) → value_at es m k ≡ Some w → map (λ e. number_of side (f e)) (put_at es m k v)
        ≡ map (λ e. number_of side (f e)) es
    same [] h = cc h
    same (e ∷ es) h = by (is_entry m k e) h (same es)
      where
        by : (b : Bool) → cond b (Some e.value) (value_at es m k) ≡ Some w
            → (value_at es m k ≡ Some w → map (λ e. number_of side (f e)) (put_at es m k v)
            ≡ map (λ e. number_of side (f e)) es)
            → map (λ e. number_of side (f e))
            (cond b (record { map = e.map; key = e.key; value = v } ∷ es) (e ∷ put_at es m k v))
            ≡ map (λ e. number_of side (f e)) (e ∷ es)
        by true h rest = ap (λ p. number_of side p ∷ map (λ e. number_of side (f e)) es) (alike e v)
        by false h rest = ap (λ ns. number_of side (f e) ∷ ns) (rest h)

-- only which entries are to be looked at changed
pub IsFor-left : {E : Type 0} (f : E → Place) (entries : List E) (side new : SideState) → IsFor f entries side
    → new ≡ record { heads = side.heads; lists = side.lists; owners = side.owners; left = new.left } → IsSide new
    → IsFor f entries new
IsFor-left f entries side new is rest sound = record {
  sound = sound;
  numbers = numbers-of f side new (λ q k h. ap (λ (s : SideState). number_of s q) rest ∙ h) entries side.owners
      is.numbers ∙ ap (map (λ j. Some j)) (sym (ap (λ (s : SideState). s.owners) rest));
}

pub same_length : {E : Type 0} (f : E → Place) (entries : List E) (side : SideState) → IsFor f entries side
    → length side.left ≡ length entries
same_length f entries side is = is.sound.same ∙ IsFor-length f entries side is

-- what is still to be looked at, after one entry is taken out
module _ {E : Type 0} (f : E → Place) (entries : List E) (side now : SideState) (n : ℕ) (is : IsFor f entries side)
    (less : n < length entries) (left : now.left ≡ swap_remove side.left n None) (i : ℕ)
    (low : i < length entries - 1) where
  left_here : i ≡ n → slice_get now.left i ≡ slice_get side.left (length entries - 1)
  left_here same =
      let len = same_length f entries side is in
      ap (λ ls. slice_get ls i) left
      ∙ (ap (slice_get (swap_remove side.left n None)) same
      ∙ (swap_remove_here side.left n None (omega (arith, low, same, len))
      ∙ ap (slice_get side.left) (omega (arith, len))))

  left_other : i ≢ n → slice_get now.left i ≡ slice_get side.left i
  left_other other =
      let len = same_length f entries side is in
      ap (λ ls. slice_get ls i) left ∙ swap_remove_other side.left n i None other (omega (arith, low, len))

-- each entry that stays was there, and is to be looked at as it was
pub left_stays : {E : Type 0} (f : E → Place) (entries : List E) (side now : SideState) (n : ℕ) (d : E)
    → IsFor f entries side → n < length entries → now.left ≡ swap_remove side.left n None → (i : ℕ) (e : E)
    → slice_get (swap_remove entries n d) i ≡ Some e → (j : ℕ) × (slice_get entries j ≡ Some e)
    × (slice_get now.left i ≡ slice_get side.left j)
left_stays f entries side now n d is less left i e at =
    let cases = swap_remove_cases entries n i d e at in
    elim cases.1 [
      | inl (same, last) ↦ (
        length entries - 1,
        last,
        left_here f entries side now n is less left i cases.0 same,
      )
      | inr (other, there) ↦ (i, there, left_other f entries side now n is less left i cases.0 other)
    ]

-- one entry is taken out of the table and of both lists
module _ (entries new : List WeakEntry) (by_map by_key map_now key_now : SideState) (n : ℕ) (d : WeakEntry)
    (tied : AreTied entries by_map by_key) (less : n < length entries) (taken : new ≡ swap_remove entries n d)
    (distinct : AreDistinct new) (map_heads : map_now.heads ≡ by_map.heads)
    (map_owners : map_now.owners ≡ swap_remove by_map.owners n 0)
    (map_left : map_now.left ≡ swap_remove by_map.left n None) (map_side : IsSide map_now)
    (key_heads : key_now.heads ≡ by_key.heads) (key_owners : key_now.owners ≡ swap_remove by_key.owners n 0)
    (key_left : key_now.left ≡ swap_remove by_key.left n None) (key_side : IsSide key_now) where
  pub AreTied-taken : AreTied new map_now key_now
  AreTied-taken = record {
    distinct = distinct;
    few = (let len = ap length taken in let short = length-swap_remove entries n d in let few = tied.few in
        omega (arith, len, short, few));
    maps = subst (λ es. IsFor (λ (e : WeakEntry). e.map) es map_now) (sym taken)
        (IsFor-taken (λ (e : WeakEntry). e.map) entries by_map map_now n d less tied.maps map_heads map_owners
        map_side);
    keys = subst (λ es. IsFor (λ (e : WeakEntry). e.key) es key_now) (sym taken)
        (IsFor-taken (λ (e : WeakEntry). e.key) entries by_key key_now n d less tied.keys key_heads key_owners
        key_side);
  }

  pub Carries-taken : CarriesEntries (state_of entries by_map by_key) (state_of new map_now key_now)
  Carries-taken = record {
    from = λ i e at. (
        let cases = swap_remove_cases entries n i d e (ap (λ es. slice_get es i) (sym taken) ∙ at) in
        elim cases.1 [
          | inl (same, last) ↦ (
            length entries - 1,
            last,
            left_here (λ (e : WeakEntry). e.map) entries by_map map_now n tied.maps less map_left i cases.0 same,
            left_here (λ (e : WeakEntry). e.key) entries by_key key_now n tied.keys less key_left i cases.0 same,
          )
          | inr (other, there)
              ↦ (
                i,
                there,
                left_other (λ (e : WeakEntry). e.map) entries by_map map_now n tied.maps less map_left i cases.0 other,
                left_other (λ (e : WeakEntry). e.key) entries by_key key_now n tied.keys less key_left i cases.0 other,
              )
        ]);
  }

pub Carries-same : (weak : EntriesState) → CarriesEntries weak weak
Carries-same weak = record { from = λ i e at. (i, at, refl, refl) }

pub Carries-trans : (a b c : EntriesState) → CarriesEntries a b → CarriesEntries b c → CarriesEntries a c
Carries-trans a b c first second = record {
  from = λ i e at. (let mid = second.from i e at in let old = first.from mid.0 e mid.1 in
      (old.0, old.1, mid.2 ∙ old.2, mid.3 ∙ old.3));
}

-- a new entry
module _ (entries new : List WeakEntry) (by_map by_key map_now key_now : SideState) (entry : WeakEntry)
    (tied : AreTied entries by_map by_key) (pushed : new ≡ entries ++ entry ∷ []) (distinct : AreDistinct new)
    (few : length entries < 4294967295) (map_added : IsAdded by_map entry.map map_now) (map_side : IsSide map_now)
    (key_added : IsAdded by_key entry.key key_now) (key_side : IsSide key_now) where
  pub AreTied-added : AreTied new map_now key_now
  AreTied-added = record {
    distinct = distinct;
    few = (let len = ap length pushed in let more = length-append entries (entry ∷ []) in
        omega (arith, len, more, few));
    maps = subst (λ es. IsFor (λ (e : WeakEntry). e.map) es map_now) (sym pushed)
        (IsFor-added (λ (e : WeakEntry). e.map) entries by_map map_now entry tied.maps map_added map_side);
    keys = subst (λ es. IsFor (λ (e : WeakEntry). e.key) es key_now) (sym pushed)
        (IsFor-added (λ (e : WeakEntry). e.key) entries by_key key_now entry tied.keys key_added key_side);
  }

-- the first list is put back
pub AreTied-undone : (entries : List WeakEntry) (by_map by_key mid map_now : SideState) (m : Place)
    → AreTied entries by_map by_key → IsAdded by_map m mid → IsUndone by_map mid map_now → IsSide map_now
    → AreTied entries map_now by_key
AreTied-undone entries by_map by_key mid map_now m tied added undone side = record {
  distinct = tied.distinct;
  few = tied.few;
  maps = IsFor-undone (λ (e : WeakEntry). e.map) entries by_map mid map_now m tied.maps added undone side;
  keys = tied.keys;
}

pub state-undone : (entries now : List WeakEntry) (by_map by_key mid map_now key_now : SideState) → now ≡ entries
    → IsUndone by_map mid map_now → key_now ≡ by_key → state_of now map_now key_now ≡ state_of entries by_map by_key
state-undone entries now by_map by_key mid map_now key_now same undone key_same = λ i. record {
  table = record { entries = same i; by_map = undone.lists i; by_key = shown (key_same i).lists };
  looks = record { by_map = undone.left i; by_key = (key_same i).left };
}

abbrev count_of : Option Place → ℕ
count_of o = if is_some o then 0 else 1

pub AreTied-put : (entries new : List WeakEntry) (by_map by_key : SideState) (m k v w : Place)
    → AreTied entries by_map by_key → value_at entries m k ≡ Some w → new ≡ put_at entries m k v → AreDistinct new
    → AreTied new by_map by_key
AreTied-put entries new by_map by_key m k v w tied there put distinct = record {
  distinct = distinct;
  few = (let len = ap length put in let same = length-put_at entries m k v in let few = tied.few in let one =
      ap count_of there in omega (arith, len, same, few, one));
  maps = subst (λ es. IsFor (λ (e : WeakEntry). e.map) es by_map) (sym put)
      (IsFor-put (λ (e : WeakEntry). e.map) entries by_map m k v w (λ e v. refl) there tied.maps);
  keys = subst (λ es. IsFor (λ (e : WeakEntry). e.key) es by_key) (sym put)
      (IsFor-put (λ (e : WeakEntry). e.key) entries by_key m k v w (λ e v. refl) there tied.keys);
}

pub AreTied-left : (entries : List WeakEntry) (by_map by_key map_now key_now : SideState)
    → AreTied entries by_map by_key
    → map_now ≡ record { heads = by_map.heads; lists = by_map.lists; owners = by_map.owners; left = map_now.left }
    → IsSide map_now → key_now ≡ record {
      heads = by_key.heads;
      lists = by_key.lists;
      owners = by_key.owners;
      left = key_now.left;
    } → IsSide key_now → AreTied entries map_now key_now
AreTied-left entries by_map by_key map_now key_now tied map_rest map_side key_rest key_side = record {
  distinct = tied.distinct;
  few = tied.few;
  maps = IsFor-left (λ (e : WeakEntry). e.map) entries by_map map_now tied.maps map_rest map_side;
  keys = IsFor-left (λ (e : WeakEntry). e.key) entries by_key key_now tied.keys key_rest key_side;
}

pub AreTied-none : (entries : List WeakEntry) (by_map by_key : SideState) → entries ≡ []
    → by_map ≡ record { heads = no_heads; lists = []; owners = []; left = [] }
    → by_key ≡ record { heads = no_heads; lists = []; owners = []; left = [] } → IsSide by_map → IsSide by_key
    → AreTied entries by_map by_key
AreTied-none entries by_map by_key none map_none key_none map_side key_side = record {
  distinct = λ i j d less within. absurd (let len = ap length none in omega (arith, len, within));
  few = (let len = ap length none in omega (arith, len));
  maps = record {
    sound = map_side;
    numbers = ap (map (λ e. number_of by_map e.map)) none
        ∙ ap (λ (s : SideState). map (λ j. Some j) s.owners) (sym map_none);
  };
  keys = record {
    sound = key_side;
    numbers = ap (map (λ e. number_of by_key e.key)) none
        ∙ ap (λ (s : SideState). map (λ j. Some j) s.owners) (sym key_none);
  };
}

-- what is to be looked at is an entry
pub entry_left : {E : Type 0} (f : E → Place) (entries : List E) (side : SideState) (n : ℕ) (o : Option MarkColour)
    → IsFor f entries side → slice_get side.left n ≡ Some o → (e : E) × (slice_get entries n ≡ Some e)
entry_left {E} f entries side n o is h =
    by entries (let low = slice_get_within side.left n o h in let same = is.sound.same in let len =
    IsFor-length f entries side is in omega (arith, low, same, len))
  where
    by : (es : List E) → n < length es → (e : E) × (slice_get es n ≡ Some e)
    by [] low = absurd (omega (arith, low))
    by (e ∷ es) low = (get_or (e ∷ es) n e, slice_get-get_or (e ∷ es) n e low)

pub AreParallel-tied : (entries : List WeakEntry) (by_map by_key : SideState) → AreTied entries by_map by_key
    → HaveLooks (state_of entries by_map by_key)
AreParallel-tied entries by_map by_key tied = (
  tied.maps.sound.same ∙ IsFor-length (λ (e : WeakEntry). e.map) entries by_map tied.maps,
  tied.keys.sound.same ∙ IsFor-length (λ (e : WeakEntry). e.key) entries by_key tied.keys,
)

-- only which entries are to be looked at changed
pub table-left : (entries : List WeakEntry) (by_map by_key map_now key_now : SideState)
    → map_now ≡ record { heads = by_map.heads; lists = by_map.lists; owners = by_map.owners; left = map_now.left }
    → key_now ≡ record { heads = by_key.heads; lists = by_key.lists; owners = by_key.owners; left = key_now.left }
    → table_of entries map_now key_now ≡ table_of entries by_map by_key
table-left entries by_map by_key map_now key_now map_rest key_rest =
    λ i. record { entries = entries; by_map = shown (map_rest i).lists; by_key = shown (key_rest i).lists }

-- the list of an entry
owner_of : {E : Type 0} (f : E → Place) (entries : List E) (side : SideState) → IsFor f entries side
    → (n : ℕ) (e : E) → slice_get entries n ≡ Some e → (j : ℕ) × (slice_get side.owners n ≡ Some j)
    × (number_of side (f e) ≡ Some j)
owner_of f entries side is n e at =
    let owner = map_at (λ j. Some j) side.owners n (number_of side (f e))
    (ap (λ ns. slice_get ns n) (sym is.numbers)
    ∙ (slice_get-map (λ e. number_of side (f e)) entries n ∙ ap (option_map (λ e. number_of side (f e))) at)) in
    (owner.0, owner.1, sym owner.2)

-- a list was started, as callers see it
pub Starts-side : {E : Type 0} (f : E → Place) (c : MarkColour) (p : Place) (entries : List E)
    (side new : SideState) → IsFor f entries side → StartsLists c (number_of side p) side.owners side.left new.left
    → Starts f c p entries side.left new.left
Starts-side f c p entries side new is starts = record {
  sized = starts.sized;
  colour_now = starts.colour_now;
  those = λ n e at of.
      (let owner = owner_of f entries side is n e at in
      starts.those n owner.0 owner.1 (ap (number_of side) (sym of) ∙ owner.2));
  is = elim starts.is [
    | inl same ↦ inl same
    | inr (black, (x, owned, left)) ↦ inr (black, left_of_place x owned left)
  ];
  black = starts.black;
  others = λ n e at other.
      (let owner = owner_of f entries side is n e at in
      starts.others n (inr (λ same. other (is.sound.apart (f e) p owner.0 owner.2 (sym same ∙ owner.1)))));
}
  where
    left_of_place : (x : ℕ) → slice_get side.owners x ≡ number_of side p
        → slice_get side.left x ≡ Some (Some colour.Black) → IsLeftOf f colour.Black p entries side.left
    left_of_place x owned left =
        let e = entry_left f entries side x (Some colour.Black) is left in
        let owner = owner_of f entries side is x e.0 e.1 in
        record {
          number = x;
          entry = e.0;
          there = e.1;
          of = is.sound.apart (f e.0) p owner.0 owner.2 (sym owned ∙ owner.1);
          is_left = left;
        }

-- there is no entry
pub Starts-none : {E : Type 0} (f : E → Place) (c : MarkColour) (p : Place) (entries : List E)
    (left : List (Option MarkColour)) → length entries ≡ 0 → Starts f c p entries left left
Starts-none f c p entries left none = record {
  sized = refl;
  colour_now = c;
  those = λ n entry at of. absurd (let less = slice_get_within entries n entry at in omega (arith, less, none));
  is = inl refl;
  black = λ n h. h;
  others = λ n entry at other. refl;
}
