use Rattle.std.proofs.Common.{◌≡◌, ◌<◌, ◌∙◌, refl, None, length, sym, arith}
use Rattle.std.specs.Map.{lookup}
use Rattle.wrappers.specs.WrapperMaps.{lists_of, list_at, is_key}
use Rattle.wrappers.proofs.Finding.{AreApart-from_sound, found_at, none_at, only_home, nowhere, place_at-home}
use Rattle.wrappers.proofs.Finding.{place_at-absent, slice_get-read}
use Rattle.wrappers.proofs.wrapper_maps.Wrappers.find.Goals as goal

pub returns-in-Some-clause-value : goal.returns-in-Some-clause-value
returns-in-Some-clause-value c =
    let lists = lists_of c.self.inside.maps.items in
    let within : c.args.comp.0 < length c.self.inside.homes = omega arith in
    let home = slice_get-read c.self.inside.homes c.args.comp.0 _ _ within c.in-Some.is in
    let one = only_home lists c.self.inside.homes c.args.comp.0 c.in-Some.zone c.self.invariant.at_home home in
    let read : c.find_in_zone.result ≡ lookup (is_key c.args.comp.0 c.args.target) (list_at lists c.in-Some.zone) =
    rw c.deref.ensures.value at c.find_in_zone.ensures in
    rw (← c.self.view_is) (read ∙ sym (place_at-home lists c.in-Some.zone c.args.comp.0 c.args.target one))

pub returns-in-Some-clause-some : goal.returns-in-Some-clause-some
returns-in-Some-clause-some c =
    let lists = lists_of c.self.inside.maps.items in
    let read : c.find_in_zone.result ≡ lookup (is_key c.args.comp.0 c.args.target) (list_at lists c.in-Some.zone) =
    rw c.deref.ensures.value at c.find_in_zone.ensures in
    rw (← c.self.view_is) (found_at lists c.in-Some.zone c.args.comp.0 c.args.target c.find_in_zone.result read)

pub returns-in-Some-clause-none : goal.returns-in-Some-clause-none
returns-in-Some-clause-none c =
    let lists = lists_of c.self.inside.maps.items in
    let within : c.args.comp.0 < length c.self.inside.homes = omega arith in
    let home = slice_get-read c.self.inside.homes c.args.comp.0 _ _ within c.in-Some.is in
    let one = only_home lists c.self.inside.homes c.args.comp.0 c.in-Some.zone c.self.invariant.at_home home in
    let read : c.find_in_zone.result ≡ lookup (is_key c.args.comp.0 c.args.target) (list_at lists c.in-Some.zone) =
    rw c.deref.ensures.value at c.find_in_zone.ensures in
    rw (← c.self.view_is) (none_at lists c.in-Some.zone c.args.comp.0 c.args.target c.find_in_zone.result read one)

pub returns-in-None-clause-value : goal.returns-in-None-clause-value
returns-in-None-clause-value c =
    let within : c.args.comp.0 < length c.self.inside.homes = omega arith in
    let homeless = slice_get-read c.self.inside.homes c.args.comp.0 _ None within c.in-None.is in
    let never = nowhere (lists_of c.self.inside.maps.items) c.self.inside.homes c.args.comp.0 c.self.invariant.at_home
    homeless in
    rw (← c.self.view_is) (sym (place_at-absent (lists_of c.self.inside.maps.items) c.args.comp.0 c.args.target never))

pub returns-in-None-clause-none : goal.returns-in-None-clause-none
returns-in-None-clause-none c =
    let within : c.args.comp.0 < length c.self.inside.homes = omega arith in
    let homeless = slice_get-read c.self.inside.homes c.args.comp.0 _ None within c.in-None.is in
    let never = nowhere (lists_of c.self.inside.maps.items) c.self.inside.homes c.args.comp.0 c.self.invariant.at_home
    homeless in
    rw (← c.self.view_is) (λ z place there. never z _ there refl)

pub returns-in-Some-clause-apart : goal.returns-in-Some-clause-apart
returns-in-Some-clause-apart c = rw (← c.self.view_is) (AreApart-from_sound _ c.self.inside.homes c.self.invariant)

pub returns-in-None-clause-apart : goal.returns-in-None-clause-apart
returns-in-None-clause-apart c = rw (← c.self.view_is) (AreApart-from_sound _ c.self.inside.homes c.self.invariant)
