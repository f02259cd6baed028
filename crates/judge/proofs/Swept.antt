-- The white cells that wait to be swept.
use Rattle.std.proofs.Common.{◌≡◌, ◌∙◌, ℕ, ◌+◌, ◌<◌, ◌≤◌, Bool, true, false, cond, List, [], ◌∷◌, ◌++◌, length}
use Rattle.std.proofs.Common.{get_or}
use Rattle.std.proofs.Common.{take, length-append, Option, Some, None, Result, Ok, Err, refl, sym, ap, subst, arith}
use Rattle.std.proofs.Common.{eqb-true, eq-eqb}
use Rattle.std.specs.Prelude.{OnErr, OnOk, nat_eq}
use Rattle.std.specs.BTreeMap as tree
use Rattle.std.specs.Cmp.{unsigned_ties}
use Rattle.std.specs.List.{filter}
use Rattle.std.specs.Map.{lookup}
use Rattle.std.specs.Ordering.{is_eq, nat_cmp}
use Rattle.std.proofs.lemmas.List.{append-nil, take_all, take_more}
use Rattle.std.proofs.lemmas.List.Elements.{filter-append}
use Rattle.gz_names.specs.declared.names.Name.{Name}
use Rattle.gz_names.specs.declared.numbers.Place.{Place}
use Rattle.plain_graph.specs.Indexed.{order_of}
use Rattle.judge.specs.Cells.{Cells}
use Rattle.judge.specs.WhiteLists.{AreShort, WhiteLists}
use Rattle.judge.specs.Whites.{Adds, AreByArena, Clears, is_at, lies_in, names_or_none, whites_in}
use Rattle.judge.specs.declared.whites.Whites.{Whites}

-- numbers that differ are told apart
apart : (a b : ℕ) → (a ≡ b → ⊥) → is_eq (nat_cmp a b) ≡ false
apart a b n = go (is_eq (nat_cmp a b)) refl
  where
    go : (t : Bool) → is_eq (nat_cmp a b) ≡ t → t ≡ false
    go true e = absurd (n (eqb-true a b (unsigned_ties a b ∙ e)))
    go false e = refl

pub clears_of : (old new : Whites) (arena : ℕ) → tree.Updates nat_cmp old.names new.names arena None
    → Clears old arena new
clears_of old new arena up = record {
  here = ap names_or_none up.1;
  others = λ other n. ap names_or_none (up.2 other (apart arena other n));
}

-- the list of an arena is taken out, and put back with a name more
pub record PutsBack (old mid new : Whites) (arena : ℕ) (x : Name) : Type 0 where
  pub names : List Name
  pub out : Clears old arena mid
  pub more : names ≡ whites_in old arena ++ x ∷ []
  pub back : tree.Updates nat_cmp mid.names new.names arena (Some names)

put_at : (old mid new : Whites) (arena : ℕ) (x : Name) → PutsBack old mid new arena x → (other : ℕ) (t : Bool)
    → is_eq (nat_cmp arena other) ≡ t → whites_in new other ≡ whites_in old other ++ cond t (x ∷ []) []
put_at old mid new arena x puts other true e =
    ap names_or_none (puts.back.0 other ∙ ap (λ b. cond b (Some puts.names) (tree.get nat_cmp mid.names other)) e)
    ∙ puts.more
    ∙ ap (λ a. whites_in old a ++ x ∷ []) (eqb-true arena other (unsigned_ties arena other ∙ e))
put_at old mid new arena x puts other false e =
    ap names_or_none (puts.back.0 other ∙ ap (λ b. cond b (Some puts.names) (tree.get nat_cmp mid.names other)) e)
    ∙ puts.out.others other (λ s. let t = eq-eqb arena other s in cc (t, unsigned_ties arena other, e))
    ∙ sym (append-nil (whites_in old other))

pub adds_some : (old mid new : Whites) (place : Option Place) (p : Place) (arena : ℕ) (x : Name) → place ≡ Some p
    → arena ≡ p.0 → PutsBack old mid new arena x → Adds old place x new
adds_some old mid new place p arena x is at puts = λ other.
    put_at old mid new arena x puts other (is_eq (nat_cmp arena other)) refl
    ∙ ap (λ b. whites_in old other ++ cond b (x ∷ []) [])
    (sym (unsigned_ties arena other) ∙ ap (λ a. nat_eq a other) at ∙ ap (λ o. is_at o other) (sym is))

pub adds_none : (whites : Whites) (place : Option Place) (x : Name) → ((p : Place) → place ≡ Some p → ⊥)
    → Adds whites place x whites
adds_none whites None x n = λ arena. sym (append-nil (whites_in whites arena))
adds_none whites (Some p) x n = absurd (n p refl)

-- names one after another
pub by_arena_none : (cells : Cells) (whites : Whites) → ((arena : ℕ) → whites_in whites arena ≡ [])
    → AreByArena cells [] whites
by_arena_none cells whites none = none

-- the place of the name that comes next, and what it is added to
pub record AddsNext (cells : Cells) (place : Option Place) (x : Name) (old new : Whites) : Type 0 where
  pub found : place ≡ tree.get order_of cells x
  pub adds : Adds old place x new

pub by_arena_more : (cells : Cells) (place : Option Place) (names : List Name) (i : ℕ) (d : Name) (old new : Whites)
    → i < length names → AddsNext cells place (get_or names i d) old new → AreByArena cells (take i names) old
    → AreByArena cells (take (i + 1) names) new
by_arena_more cells place names i d old new below next is = λ arena.
    let x = get_or names i d in
    next.adds arena
    ∙ ap (λ xs. xs ++ cond (is_at place arena) (x ∷ []) []) (is arena)
    ∙ ap (λ p. filter (lies_in cells arena) (take i names) ++ cond (is_at p arena) (x ∷ []) []) next.found
    ∙ sym (filter-append (lies_in cells arena) (take i names) (x ∷ []))
    ∙ ap (filter (lies_in cells arena)) (sym (take_more names i d below))

pub by_arena_all : (cells : Cells) (names : List Name) (i : ℕ) (whites : Whites) → length names ≤ i
    → AreByArena cells (take i names) whites → AreByArena cells names whites
by_arena_all cells names i whites le is = subst (λ xs. AreByArena cells xs whites) (take_all i names le) is

-- one list is taken out, or written
pub short_out : (old new : WhiteLists) (arena : ℕ) → tree.Updates nat_cmp old new arena None → AreShort old
    → AreShort new
short_out old new arena up short = λ a ns at. go a ns at (is_eq (nat_cmp arena a)) refl
  where
    go : (a : ℕ) (ns : List Name) → tree.get nat_cmp new a ≡ Some ns → (t : Bool) → is_eq (nat_cmp arena a) ≡ t
        → length ns ≤ 64
    go a ns at true e = (let none = up.0 a ∙ ap (λ b. cond b None (tree.get nat_cmp old a)) e in cc (none, at))
    go a ns at false e = short a ns (sym (up.2 a e) ∙ at)

pub short_in : (old new : WhiteLists) (arena : ℕ) (names : List Name)
    → tree.Updates nat_cmp old new arena (Some names) → length names ≤ 64 → AreShort old → AreShort new
short_in old new arena names up few short = λ a ns at. go a ns at (is_eq (nat_cmp arena a)) refl
  where
    go : (a : ℕ) (ns : List Name) → tree.get nat_cmp new a ≡ Some ns → (t : Bool) → is_eq (nat_cmp arena a) ≡ t
        → length ns ≤ 64
    go a ns at true e =
        let is = up.0 a ∙ ap (λ b. cond b (Some names) (tree.get nat_cmp old a)) e in
        let same : names ≡ ns = cc (is, at) in subst (λ xs. length xs ≤ 64) same few
    go a ns at false e = short a ns (sym (up.2 a e) ∙ at)

pub short_list : (o : Option (List Name)) → ((ns : List Name) → o ≡ Some ns → length ns ≤ 64)
    → length (names_or_none o) ≤ 64
short_list None short = omega arith
short_list (Some ns) short = short ns refl

-- the list of an arena is written, or it is not
pub short_written : {X E : Type 0} (r : Result X E) (old new : WhiteLists) (arena : ℕ) (names : List Name)
    → OnOk r (tree.Updates nat_cmp old new arena (Some names)) → OnErr r (tree.IsUnchanged old new)
    → length names ≤ 64 → AreShort old → AreShort new
short_written (Ok x) old new arena names up same few short = short_in old new arena names up few short
short_written (Err e) old new arena names up same few short = λ a ns at.
    short a ns (sym (ap (λ (es : List (ℕ × List Name)). lookup (tree.is_at (nat_cmp a)) es) same) ∙ at)

-- a name more fits into the list of an arena
pub short_more : (old : Whites) (arena : ℕ) (x : Name) (was names : List Name) → was ≡ whites_in old arena
    → names ≡ was ++ x ∷ [] → length (whites_in old arena) < 64 → length names ≤ 64
short_more old arena x was names is more room =
    let sum = length-append was (x ∷ []) in let many = ap length more in let few = ap length is in
    omega (arith, sum, many, few, room)
