use Rattle.std.proofs.Common.{◌≡◌, ◌<◌, ◌++◌, ◌∷◌, [], ◌∙◌, None, length, get_or, sym, ap, arith}
use Rattle.std.proofs.lemmas.Result.{err_from_is_err_and}
use Rattle.std.specs.Map.{lookup}
use Rattle.indexmap.proofs.CallerLemmas.{insert_entry-new}
use Rattle.wrappers.specs.WrapperMaps.{is_key, list_at, lists_of}
use Rattle.wrappers.specs.declared.wrapper_maps.WrapperKey.{WrapperKey}
use Rattle.wrappers.proofs.Lists.{Entries, lists_of-read, lists_of-push, lists_of-same}
use Rattle.wrappers.proofs.wrapper_maps.add_in_zone.Goals as goal

pub returns-in_err-insert-clause-err : goal.returns-in_err-insert-clause-err
returns-in_err-insert-clause-err c =
    let p = err_from_is_err_and c.from_residual.result c.from_residual.ensures.1 in
    let inside : c.index.result < length c.args.maps.now = omega arith in
    let kept : c.insert.new.self.entries ≡ c.index-maps-index.result.entries = c.in_err-insert.ensures.err
    ∙ ap (λ (m : Entries). m.entries) (sym c.index-maps-index.is) in
    rw p.1 (lists_of-same c.args.maps.now c.index.result c.index-maps-index.result c.insert.new.self inside
    c.index-maps-index.is kept)

pub returns-clause-ok : goal.returns-clause-ok
returns-clause-ok c =
    let map = c.index-maps-index.result in
    let old = get_or c.args.maps.now c.index.result map in
    let same : map ≡ old = c.index-maps-index.is in
    let zone : c.index.result ≡ c.args.zone = c.index.ensures.value in
    let inside : c.index.result < length c.args.maps.now = omega arith in
    let listed : list_at (lists_of c.args.maps.now) c.args.zone ≡ old.entries =
    ap (list_at (lists_of c.args.maps.now)) (sym zone)
    ∙ (lists_of-read c.args.maps.now c.index.result map inside same ∙ ap (λ (m : Entries). m.entries) same) in
    let none : lookup (is_key c.args.comp.0 c.args.target) old.entries ≡ None =
    ap (lookup (is_key c.args.comp.0 c.args.target)) (sym listed) ∙ c.requires.absent in
    let key : WrapperKey = record { comp = c.args.comp.0; target = c.args.target } in
    let entries = rw c.key_of-key.ensures at c.in_ok-insert.ensures.entries in
    let added = entries ∙ insert_entry-new _ old key c.args.place none in
    let more : c.insert.new.self.entries ≡ map.entries ++ (key, c.args.place) ∷ [] =
    added ∙ ap (λ (m : Entries). m.entries ++ (key, c.args.place) ∷ []) (sym same) in
    rw (← zone) (lists_of-push c.args.maps.now c.index.result map c.insert.new.self key c.args.place inside same more)
