-- The dump of a valid settled world is sound.
use Rattle.std.proofs.Common.{◌≡◌, ◌≤◌, ◌<◌, ℕ, ◌⊎◌, inl, inr, List, [], ◌∷◌, ◌++◌, Bool, true, false, not, ◌&&◌, ◌||◌}
use Rattle.std.proofs.Common.{cond, refl, sym, ap, subst, ◌∙◌, arith, Option, Some, None, Contains, is_some, map}
use Rattle.std.proofs.Common.{nat_lt, ltb-true, IsTrue}
use Rattle.std.proofs.lemmas.Bool.{ltb-false}
use Rattle.std.specs.List.{flat_map, AllByRecursion}
use Rattle.std.specs.FinSet as set
use Rattle.std.specs.Ordering.{is_lt}
use Rattle.gz_names.specs.declared.names.Name.{Name}
use Rattle.gz_names.specs.declared.names.Name.TheVariants.{Cell, Wrap}
use Rattle.gz_names.specs.declared.numbers.CompNo.{CompNo}
use Rattle.gz_names.specs.declared.dumps.DumpLine.{DumpLine}
use Rattle.gz_names.specs.declared.dumps.DumpLine.TheVariants as line
use Rattle.gz_names.specs.declared.dumps.DumpColour.{DumpColour}
use Rattle.gz_names.specs.declared.dumps.DumpColour.TheVariants.{Black, Gray}
use Rattle.gz_names.specs.declared.dumps.DumpFault.{DumpFault}
use Rattle.gz_names.specs.declared.dumps.DumpFault.TheVariants as fault
use Rattle.gz_names.specs.Order.{name_cmp, same_name}
use Rattle.gz_names.specs.Dumps.{cells_of, colour_among, is_black, is_gray, is_among, target_colour, has_target}
use Rattle.gz_names.specs.Dumps.{is_after, fault_if, fault_of, part_of, last_part, is_in_form, AreSoundLines}
use Rattle.gz_names.specs.Dumps.{IsSoundDump}
use Rattle.colour_defs.specs.declared.graph.Object.{Object}
use Rattle.colour_defs.specs.Graph.{object_of, value_of}
use Rattle.colour_defs.specs.Closure.{HasEdge, HoldsInField}
use Rattle.colour_defs.specs.World.{World, Has, IsPresent, IsSettled}
use Rattle.colour_defs.specs.Ends.{IsAscending}
use Rattle.colour_defs.specs.Dumps.{colour_in, cell_line, field_lines, object_lines, edge_lines, WeakLine, weak_line}
use Rattle.colour_defs.specs.Dumps.{IsWeakOf, IsDump}
use Rattle.colour_defs.specs.Laws.{IsValid, IsMade}
use Rattle.colour_defs.proofs.Lists.{both_of, first_of_both, second_of_both, nothing_in_none, contains_head}
use Rattle.colour_defs.proofs.Lists.{contains_tail, contains_cases}
use Rattle.colour_defs.proofs.Names.{same_name-is, same_name-refl}

-- what the lines so far say of a name
abbrev colour_of : List DumpLine → Name → Option DumpColour
colour_of ls x = colour_among (cells_of ls) x

abbrev has_line : List DumpLine → Name → Bool
has_line ls x = is_among (cells_of ls) x

abbrev target_of_line : List DumpLine → Name → Option DumpColour
target_of_line ls x = target_colour (cells_of ls) x

abbrev has_target_line : List DumpLine → Name → Bool
has_target_line ls x = has_target (cells_of ls) x

abbrev is_after_lines : List DumpLine → Name → Bool
is_after_lines ls x = is_after (cells_of ls) x

all_at : (P : Name → Type 0) (xs : List Name) → AllByRecursion P xs → (y : Name) → Contains xs y → P y
all_at P [] a y c = absurd (nothing_in_none y c)
all_at P (x ∷ xs) a y c = elim (contains_cases x xs y c) [ inl e ↦ subst P e a.0 | inr t ↦ all_at P xs a.1 y t ]

append_assoc : (xs ys zs : List DumpLine) → (xs ++ ys) ++ zs ≡ xs ++ (ys ++ zs)
append_assoc [] ys zs = refl
append_assoc (x ∷ xs) ys zs = ap (λ l. x ∷ l) (append_assoc xs ys zs)

-- lists of lines, one longer
line_colour : (bs : List DumpLine) (x : Name) (s : DumpColour) (y : Name) (q : DumpColour)
    → colour_of (bs ++ line.Cell x s ∷ []) y ≡ Some q → (colour_of bs y ≡ Some q) ⊎ ((x ≡ y) × (s ≡ q))
line_colour [] x s y q e = go (same_name x y) refl e
  where
    go : (b : Bool) → same_name x y ≡ b → cond b (Some s) None ≡ Some q → (colour_of [] y ≡ Some q)
        ⊎ ((x ≡ y) × (s ≡ q))
    go true is e = inr (same_name-is x y is, cc e)
    go false is e = absurd (cc e)
line_colour (line.Cell z p ∷ bs) x s y q e = go (λ h. line_colour bs x s y q h) (same_name z y) e
  where
    go : (colour_of (bs ++ line.Cell x s ∷ []) y ≡ Some q → (colour_of bs y ≡ Some q) ⊎ ((x ≡ y) × (s ≡ q)))
        → (b : Bool) → cond b (Some p) (colour_of (bs ++ line.Cell x s ∷ []) y) ≡ Some q
        → (cond b (Some p) (colour_of bs y) ≡ Some q) ⊎ ((x ≡ y) × (s ≡ q))
    go rest true e = inl e
    go rest false e = rest e
line_colour (line.Edge n z ∷ bs) x s y q e = line_colour bs x s y q e
line_colour (line.Weak m k v ∷ bs) x s y q e = line_colour bs x s y q e
line_colour (line.End ∷ bs) x s y q e = line_colour bs x s y q e

line_stays : (bs : List DumpLine) (l : DumpLine) (y : Name) → has_line bs y ≡ true → has_line (bs ++ l ∷ []) y ≡ true
line_stays [] l y h = absurd (cc h)
line_stays (line.Cell z p ∷ bs) l y h = go (λ k. line_stays bs l y k) (same_name z y) h
  where
    go : (has_line bs y ≡ true → has_line (bs ++ l ∷ []) y ≡ true) → (b : Bool)
        → is_some (cond b (Some p) (colour_of bs y)) ≡ true → is_some (cond b (Some p) (colour_of (bs ++ l ∷ []) y))
        ≡ true
    go rest true h = refl
    go rest false h = rest h
line_stays (line.Edge n z ∷ bs) l y h = line_stays bs l y h
line_stays (line.Weak m k v ∷ bs) l y h = line_stays bs l y h
line_stays (line.End ∷ bs) l y h = line_stays bs l y h

line_there : (bs : List DumpLine) (x : Name) (s : DumpColour) → has_line (bs ++ line.Cell x s ∷ []) x ≡ true
line_there [] x s = ap (λ b. is_some (cond b (Some s) None)) (same_name-refl x)
line_there (line.Cell z p ∷ bs) x s = go (line_there bs x s) (same_name z x)
  where
    go : has_line (bs ++ line.Cell x s ∷ []) x ≡ true → (b : Bool)
        → is_some (cond b (Some p) (colour_of (bs ++ line.Cell x s ∷ []) x)) ≡ true
    go rest true = refl
    go rest false = rest
line_there (line.Edge n z ∷ bs) x s = line_there bs x s
line_there (line.Weak m k v ∷ bs) x s = line_there bs x s
line_there (line.End ∷ bs) x s = line_there bs x s

last_cell : (cells : List (Name × DumpColour)) (x : Name) (s : DumpColour) (z : Name)
    → is_after (cells ++ (x, s) ∷ []) z ≡ is_lt (name_cmp x z)
last_cell [] x s z = refl
last_cell (c ∷ []) x s z = refl
last_cell (c ∷ d ∷ cells) x s z = last_cell (d ∷ cells) x s z

one_cell_more : (bs : List DumpLine) (x : Name) (s : DumpColour) → cells_of (bs ++ line.Cell x s ∷ []) ≡ cells_of bs
    ++ (x, s) ∷ []
one_cell_more [] x s = refl
one_cell_more (line.Cell y p ∷ bs) x s = ap (λ cells. (y, p) ∷ cells) (one_cell_more bs x s)
one_cell_more (line.Edge n y ∷ bs) x s = one_cell_more bs x s
one_cell_more (line.Weak m k v ∷ bs) x s = one_cell_more bs x s
one_cell_more (line.End ∷ bs) x s = one_cell_more bs x s

line_after : (bs : List DumpLine) (x : Name) (s : DumpColour) (z : Name) → is_after_lines (bs ++ line.Cell x s ∷ []) z
    ≡ is_lt (name_cmp x z)
line_after bs x s z = ap (λ cells. is_after cells z) (one_cell_more bs x s) ∙ last_cell (cells_of bs) x s z

-- a line that is no cell's
abbrev IsNoCell : DumpLine → Type 0
IsNoCell (line.Cell x s) = ⊥
IsNoCell (line.Edge n y) = Unit {0}
IsNoCell (line.Weak m k v) = Unit {0}
IsNoCell line.End = Unit {0}

other_colour : (bs : List DumpLine) (l : DumpLine) (y : Name) → IsNoCell l → colour_of (bs ++ l ∷ []) y ≡ colour_of bs y
other_colour [] (line.Cell x s) y n = absurd n
other_colour [] (line.Edge m z) y n = refl
other_colour [] (line.Weak m k v) y n = refl
other_colour [] line.End y n = refl
other_colour (line.Cell z p ∷ bs) l y n = ap (λ o. cond (same_name z y) (Some p) o) (other_colour bs l y n)
other_colour (line.Edge m z ∷ bs) l y n = other_colour bs l y n
other_colour (line.Weak m k v ∷ bs) l y n = other_colour bs l y n
other_colour (line.End ∷ bs) l y n = other_colour bs l y n

-- parts
abbrev AreUpTo : ℕ → List DumpLine → Type 0
AreUpTo n bs = AllByRecursion (λ b. part_of b ≤ n) bs

not_below : (a b : ℕ) → b ≤ a → not (nat_lt a b) ≡ true
not_below a b h = go (nat_lt a b) refl
  where
    go : (t : Bool) → nat_lt a b ≡ t → not t ≡ true
    go true e = absurd (let l = ltb-true a b e in omega (arith, l))
    go false e = refl

below : (a b : ℕ) → a < b → nat_lt a b ≡ true
below a b h = go (nat_lt a b) refl
  where
    go : (t : Bool) → nat_lt a b ≡ t → t ≡ true
    go true e = refl
    go false e = absurd (let l = ltb-false a b e in omega (arith, l))

last_up_to : (bs : List DumpLine) (n : ℕ) → AreUpTo n bs → last_part bs ≤ n
last_up_to [] n up = omega arith
last_up_to (b ∷ []) n up = up.0
last_up_to (b ∷ c ∷ bs) n up = last_up_to (c ∷ bs) n up.1

form_of : (bs : List DumpLine) (n : ℕ) (l : DumpLine) → AreUpTo n bs → n < 3 → n ≤ part_of l → is_in_form bs l ≡ true
form_of bs n l up small fits =
    let last = last_up_to bs n up in
    both_of _ _ (not_below (part_of l) (last_part bs) (omega (arith, last)))
    (below (last_part bs) 3 (omega (arith, last)))

up_push : (bs : List DumpLine) (n : ℕ) (l : DumpLine) → AreUpTo n bs → part_of l ≤ n → AreUpTo n (bs ++ l ∷ [])
up_push [] n l up h = (h, tt)
up_push (b ∷ bs) n l up h = (up.0, up_push bs n l up.1 h)

up_more : (bs : List DumpLine) (m n : ℕ) → m ≤ n → AreUpTo m bs → AreUpTo n bs
up_more [] m n le up = tt
up_more (b ∷ bs) m n le up = (omega (arith, le, up.0), up_more bs m n le up.1)

not_both : (a b : Bool) → (a ≡ true → b ≡ true → ⊥) → (a && b) ≡ false
not_both true true h = absurd (h refl refl)
not_both true false h = refl
not_both false b h = refl

is_not : (a : Bool) → a ≡ true → not a ≡ false
is_not true e = refl
is_not false e = absurd (cc e)

no_fault : (a b : Bool) (f g : DumpFault) → a ≡ false → b ≡ false → fault_if a f (fault_if b g None) ≡ None
no_fault true b f g ea eb = absurd (cc ea)
no_fault false true f g ea eb = absurd (cc eb)
no_fault false false f g ea eb = refl

module _ (w : World) (ok : IsValid w) (settled : IsSettled w) where
  closed_black : (x y : Name) → Has w.black x → HasEdge w.graph x y → Has w.black y
  closed_black x y h e = (ok.settled settled).closed.edges x y h e

  -- what the lines before say: colours are right, each seen name has its line, and they stand in order
  record Reads (bs : List DumpLine) (IsSeen : Name → Type 0) : Type 0 where
    colours : (y : Name) (s : DumpColour) → colour_of bs y ≡ Some s → s ≡ colour_in w y
    seen : (y : Name) → IsSeen y → has_line bs y ≡ true

  black_is : (bs : List DumpLine) (P : Name → Type 0) → Reads bs P → (y : Name) → is_black (colour_of bs y) ≡ true
      → Has w.black y
  black_is bs P r y h = go (colour_of bs y) refl h
    where
      in_black : (b : Bool) → Black ≡ cond b Black Gray → b ≡ true
      in_black true e = refl
      in_black false e = absurd (cc e)

      go : (o : Option DumpColour) → colour_of bs y ≡ o → is_black o ≡ true → Has w.black y
      go None e h = absurd (cc h)
      go (Some Black) e h = in_black (set.contains w.black y) (r.colours y Black e)
      go (Some Gray) e h = absurd (cc h)

  gray_is : (bs : List DumpLine) (P : Name → Type 0) → Reads bs P → (y : Name) → is_gray (colour_of bs y) ≡ true
      → Has w.black y → ⊥
  gray_is bs P r y h black = go (colour_of bs y) refl h
    where
      not_black : (b : Bool) → b ≡ true → Gray ≡ cond b Black Gray → ⊥
      not_black true t e = cc e
      not_black false t e = cc t

      go : (o : Option DumpColour) → colour_of bs y ≡ o → is_gray o ≡ true → ⊥
      go None e h = cc h
      go (Some Black) e h = cc h
      go (Some Gray) e h = not_black (set.contains w.black y) black (r.colours y Gray e)

  colour_black : (x : Name) → is_black (Some (colour_in w x)) ≡ true → Has w.black x
  colour_black x h = go (set.contains w.black x) h
    where
      go : (b : Bool) → is_black (Some (cond b Black Gray)) ≡ true → b ≡ true
      go true h = refl
      go false h = absurd (cc h)

  -- the edges and the weak entries
  abbrev IsGood : DumpLine → Type 0
  IsGood (line.Cell x s) = ⊥
  IsGood (line.Edge n y) = IsPresent w (Cell n) × HasEdge w.graph (Cell n) y
  IsGood (line.Weak m k v) = IsWeakOf w (record { map = m; key = k; value = v })
  IsGood line.End = Unit {0}

  gray_key : (bs : List DumpLine) → Reads bs (IsPresent w) → (m v k : Name) → value_of w.graph m k ≡ Some v
      → Has w.black m → is_gray (colour_of bs k) ≡ true → is_black (target_of_line bs k) ≡ true → ⊥
  gray_key bs r m v (Cell n) at hm g t = cc t
  gray_key bs r m v (Wrap c t) at hm g b =
      gray_is bs (IsPresent w) r (Wrap c t) g
      ((ok.settled settled).closed.delegates m v c t at hm (black_is bs (IsPresent w) r (Cell t) b))

  either : (a b : Bool) → (a || b) ≡ true → (a ≡ true) ⊎ (b ≡ true)
  either true b h = inl refl
  either false b h = inr h

  good_faultless : (bs : List DumpLine) → Reads bs (IsPresent w) → (l : DumpLine) → IsGood l → fault_of bs l ≡ None
  good_faultless bs r (line.Cell x s) g = absurd g
  good_faultless bs r (line.Edge n y) g = no_fault _ _ fault.Absent fault.Gray
      (is_not _ (both_of _ _ (r.seen (Cell n) g.0) (r.seen y (ok.presence.edges (Cell n) y g.0 g.1))))
      (not_both _ _ (λ b k. gray_is bs (IsPresent w) r y k
      (closed_black (Cell n) y (black_is bs (IsPresent w) r (Cell n) b) g.1)))
  good_faultless bs r (line.Weak m k v) g = no_fault _ _ fault.Absent fault.Gray
      (is_not _ (both_of _ _ (r.seen (Cell m) g.map_present)
      (both_of _ _ (r.seen k g.key_present)
      (r.seen v (ok.presence.entries (Cell m) k v g.found g.map_present g.key_present)))))
      (not_both _ _ (λ b e. let hm = black_is bs (IsPresent w) r (Cell m) b in
      elim (either (is_black (colour_of bs k) && is_gray (colour_of bs v))
      (is_gray (colour_of bs k) && is_black (target_of_line bs k)) e) [
        | inl q ↦ gray_is bs (IsPresent w) r v (second_of_both (is_black (colour_of bs k)) (is_gray (colour_of bs v)) q)
            ((ok.settled settled).closed.entries (Cell m) k v g.found hm
            (black_is bs (IsPresent w) r k (first_of_both (is_black (colour_of bs k)) (is_gray (colour_of bs v)) q)))
        | inr q ↦ gray_key bs r (Cell m) v k g.found hm
            (first_of_both (is_gray (colour_of bs k)) (is_black (target_of_line bs k)) q)
            (second_of_both (is_gray (colour_of bs k)) (is_black (target_of_line bs k)) q)
      ]))
  good_faultless bs r line.End g = refl

  no_cell : (l : DumpLine) → IsGood l → IsNoCell l
  no_cell (line.Cell x s) g = g
  no_cell (line.Edge n y) g = tt
  no_cell (line.Weak m k v) g = tt
  no_cell line.End g = tt

  reads_on : (bs : List DumpLine) (l : DumpLine) → IsGood l → Reads bs (IsPresent w)
      → Reads (bs ++ l ∷ []) (IsPresent w)
  reads_on bs l g r = record {
    colours = λ y s e. r.colours y s (sym (other_colour bs l y (no_cell l g)) ∙ e);
    seen = λ y p. line_stays bs l y (r.seen y p);
  }

  -- good lines of one part, and then the rest
  good_sound : (n : ℕ) (ls tail : List DumpLine) (bs : List DumpLine) → n < 3 → Reads bs (IsPresent w) → AreUpTo n bs
      → AllByRecursion (λ l. IsGood l × (part_of l ≡ n)) ls
      → ((cs : List DumpLine) → Reads cs (IsPresent w) → AreUpTo n cs → AreSoundLines cs tail)
      → AreSoundLines bs (ls ++ tail)
  good_sound n [] tail bs small r up all more = more bs r up
  good_sound n (l ∷ ls) tail bs small r up all more = (
    form_of bs n l up small (omega (arith, all.0.1)),
    good_faultless bs r l all.0.0,
    good_sound n ls tail (bs ++ l ∷ []) small (reads_on bs l all.0.0 r) (up_push bs n l up (omega (arith, all.0.1)))
        all.1 more,
  )

  -- a wrapper's target has its line before
  target_there : (bs : List DumpLine) (P : Name → Type 0) → Reads bs P → (x : Name)
      → ((c : CompNo) (t : ℕ) → x ≡ Wrap c t → P (Cell t)) → has_target_line bs x ≡ true
  target_there bs P r (Cell n) h = refl
  target_there bs P r (Wrap c t) h = r.seen (Cell t) (h c t refl)

  target_dark : (bs : List DumpLine) (P : Name → Type 0) → Reads bs P → (x : Name) → IsPresent w x → Has w.black x
      → is_gray (target_of_line bs x) ≡ true → ⊥
  target_dark bs P r (Cell n) p h g = cc g
  target_dark bs P r (Wrap c t) p h g = let m : IsMade w.graph (Wrap c t) = ok.made (Wrap c t) p in
      gray_is bs P r (Cell t) g (closed_black (Wrap c t) (Cell t) h (refl, m.2))

  cell_faultless : (a b c : Bool) → a ≡ true → b ≡ true → c ≡ false
      → fault_if (not a) fault.Order (fault_if (not b) fault.Absent (fault_if c fault.Gray None)) ≡ None
  cell_faultless true true false ea eb ec = refl
  cell_faultless true true true ea eb ec = absurd (cc ec)
  cell_faultless true false c ea eb ec = absurd (cc eb)
  cell_faultless false b c ea eb ec = absurd (cc ea)

  -- the cells, and then the rest
  cells_sound : (xs : List Name) (tail bs : List DumpLine) (P : Name → Type 0) → Reads bs P → AreUpTo 0 bs
      → IsAscending xs → ((x : Name) → Contains xs x → IsPresent w x)
      → ((x : Name) → IsPresent w x → P x ⊎ Contains xs x) → ((x : Name) → Contains xs x → is_after_lines bs x ≡ true)
      → ((cs : List DumpLine) → Reads cs (IsPresent w) → AreUpTo 0 cs → AreSoundLines cs tail)
      → AreSoundLines bs (map (cell_line w) xs ++ tail)
  cells_sound [] tail bs P r up asc pres all after more =
      more bs (record {
        colours = r.colours;
        seen = λ y p. r.seen y (elim (all y p) [ inl q ↦ q | inr c ↦ absurd (nothing_in_none y c) ]);
      }) up
  cells_sound (x ∷ xs) tail bs P r up asc pres all after more = (
    form_of bs 0 (cell_line w x) up (omega arith) (omega arith),
    cell_faultless _ _ _ (after x (contains_head x xs)) (target_there bs P r x seen_before)
        (not_both _ _ (λ b g. target_dark bs P r x (pres x (contains_head x xs)) (colour_black x b) g)),
    cells_sound xs tail (bs ++ cell_line w x ∷ []) (λ y. P y ⊎ (x ≡ y)) next
        (up_push bs 0 (cell_line w x) up (omega arith)) asc.1 (λ y c. pres y (contains_tail x xs y c)) split later more,
  )
    where
      greater : (y : Name) → Contains xs y → is_lt (name_cmp x y) ≡ true
      greater y c = all_at (λ z. IsTrue (is_lt (name_cmp x z))) xs asc.0 y c

      seen_before : (c : CompNo) (t : ℕ) → x ≡ Wrap c t → P (Cell t)
      seen_before c t e =
          let px : IsPresent w (Wrap c t) = subst (λ z. IsPresent w z) e (pres x (contains_head x xs)) in
          let m : IsMade w.graph (Wrap c t) = ok.made (Wrap c t) px in
          elim (all (Cell t) (ok.presence.edges (Wrap c t) (Cell t) px (refl, m.2))) [
            | inl q ↦ q
            | inr h ↦ elim (contains_cases x xs (Cell t) h) [
              | inl same ↦ absurd (cc (e, same))
              | inr tail ↦ absurd (let g : is_lt (name_cmp (Wrap c t) (Cell t)) ≡ true =
                  subst (λ z. is_lt (name_cmp z (Cell t)) ≡ true) e (greater (Cell t) tail) in cc g)
            ]
          ]

      next : Reads (bs ++ cell_line w x ∷ []) (λ y. P y ⊎ (x ≡ y))
      next = record {
        colours = λ y s e. elim (line_colour bs x (colour_in w x) y s e) [
          | inl old ↦ r.colours y s old
          | inr new
              ↦ sym new.1 ∙ ap (colour_in w) new.0
        ];
        seen = λ y h. elim h [
          | inl p ↦ line_stays bs (cell_line w x) y (r.seen y p)
          | inr e
              ↦ subst (λ z. has_line (bs ++ cell_line w x ∷ []) z ≡ true) e (line_there bs x (colour_in w x))
        ];
      }

      split : (y : Name) → IsPresent w y → (P y ⊎ (x ≡ y)) ⊎ Contains xs y
      split y p = elim (all y p) [
        | inl q ↦ inl (inl q)
        | inr c
            ↦ elim (contains_cases x xs y c) [ inl e ↦ inl (inr e) | inr t ↦ inr t ]
      ]

      later : (y : Name) → Contains xs y → is_after_lines (bs ++ cell_line w x ∷ []) y ≡ true
      later y c = line_after bs x (colour_in w x) y ∙ greater y c

  -- the edges that are listed
  all_append : (P : DumpLine → Type 0) (xs ys : List DumpLine) → AllByRecursion P xs → AllByRecursion P ys
      → AllByRecursion P (xs ++ ys)
  all_append P [] ys a b = b
  all_append P (x ∷ xs) ys a b = (a.0, all_append P xs ys a.1 b)

  fields_good : (n : ℕ) (fields : List (Option Name)) → ((y : Name) → Contains fields (Some y) → IsGood (line.Edge n y))
      → AllByRecursion (λ l. IsGood l × (part_of l ≡ 1)) (field_lines n fields)
  fields_good n [] h = tt
  fields_good n (None ∷ fields) h = fields_good n fields (λ y c. h y (contains_tail None fields (Some y) c))
  fields_good n (Some x ∷ fields) h = (
    (h x (contains_head (Some x) fields), refl),
    fields_good n fields (λ y c. h y (contains_tail (Some x) fields (Some y) c)),
  )

  object_good : (n : ℕ) → IsPresent w (Cell n) → (o : Option Object) → object_of w.graph n ≡ o
      → AllByRecursion (λ l. IsGood l × (part_of l ≡ 1)) (object_lines n o)
  object_good n p None e = tt
  object_good n p (Some o) e = fields_good n o.fields (λ y c. (p, subst (λ z. HoldsInField z y) (sym e) c))

  edges_good : (xs : List Name) → ((x : Name) → Contains xs x → IsPresent w x)
      → AllByRecursion (λ l. IsGood l × (part_of l ≡ 1)) (flat_map (edge_lines w.graph) xs)
  edges_good [] pres = tt
  edges_good (Cell n ∷ xs) pres = all_append _ (object_lines n (object_of w.graph n)) (flat_map (edge_lines w.graph) xs)
      (object_good n (pres (Cell n) (contains_head (Cell n) xs)) (object_of w.graph n) refl)
      (edges_good xs (λ x c. pres x (contains_tail (Cell n) xs x c)))
  edges_good (Wrap b t ∷ xs) pres = edges_good xs (λ x c. pres x (contains_tail (Wrap b t) xs x c))

  weaks_good : (es : List WeakLine) → ((e : WeakLine) → Contains es e → IsWeakOf w e)
      → AllByRecursion (λ l. IsGood l × (part_of l ≡ 2)) (map weak_line es)
  weaks_good [] h = tt
  weaks_good (e ∷ es) h = ((h e (contains_head e es), refl), weaks_good es (λ d c. h d (contains_tail e es d c)))

  pub dump_sound : (lines : List DumpLine) → IsDump w lines → IsSoundDump lines
  dump_sound lines d = record {
    body = map (cell_line w) d.cells ++ (flat_map (edge_lines w.graph) d.cells ++ map weak_line d.weaks);
    ends = d.lines_are ∙ regroup;
    sound = subst (λ ls. AreSoundLines [] ls) (sym d.lines_are) all;
  }
    where
      pres : (x : Name) → Contains d.cells x → IsPresent w x
      pres x c = (d.cells_are.has x).0 c

      regroup : map (cell_line w) d.cells
          ++ (flat_map (edge_lines w.graph) d.cells ++ (map weak_line d.weaks ++ line.End ∷ []))
          ≡ (map (cell_line w) d.cells ++ (flat_map (edge_lines w.graph) d.cells ++ map weak_line d.weaks)) ++ line.End
          ∷ []
      regroup = ap (λ z. map (cell_line w) d.cells ++ z)
          (sym (append_assoc (flat_map (edge_lines w.graph) d.cells) (map weak_line d.weaks) (line.End ∷ [])))
          ∙ sym (append_assoc (map (cell_line w) d.cells)
          (flat_map (edge_lines w.graph) d.cells ++ map weak_line d.weaks) (line.End ∷ []))

      all : AreSoundLines []
          (map (cell_line w) d.cells
          ++ (flat_map (edge_lines w.graph) d.cells ++ (map weak_line d.weaks ++ line.End ∷ [])))
      all = cells_sound d.cells (flat_map (edge_lines w.graph) d.cells ++ (map weak_line d.weaks ++ line.End ∷ [])) []
          (λ y. ⊥) (record { colours = λ y s e. absurd (cc e); seen = λ y h. absurd h }) tt d.cells_are.ascending pres
          (λ x p. inr ((d.cells_are.has x).1 p)) (λ x c. refl)
          (λ bs r up. good_sound 1 (flat_map (edge_lines w.graph) d.cells) (map weak_line d.weaks ++ line.End ∷ []) bs
          (omega arith) r (up_more bs 0 1 (omega arith) up) (edges_good d.cells pres)
          (λ cs s above. good_sound 2 (map weak_line d.weaks) (line.End ∷ []) cs (omega arith) s
          (up_more cs 1 2 (omega arith) above) (weaks_good d.weaks (λ e c. (d.weaks_are e).0 c))
          (λ es u top. (form_of es 2 line.End top (omega arith) (omega arith), refl, tt))))
