use Rattle.std.proofs.lemmas.Result.{on_err_weaker, on_ok_weaker}
use Rattle.gz_names.specs.Zones.{zones_in}
use Rattle.trace_lang.specs.Words.{number_words}
use Rattle.trace_lang.specs.Texts.{names_text}
use Rattle.trace_lang.proofs.Owing.{ended_front, ended_piece, ended_told, ended_whole}
use Rattle.trace_lang.proofs.write.write_ended.Goals as goal

pub returns-in-Ok-clause-ok : goal.returns-in-Ok-clause-ok
returns-in-Ok-clause-ok g c =
    let front = ended_piece _ _ _ _ _ c.new-piece.ensures c.push.ensures c.push_zones.ensures.text c.push-2.ensures in
    on_ok_weaker c.write_told.result
    (ended_whole _ _ _ c.push-2.new.self (number_words (zones_in c.args.zones)) (names_text c.args.grays.now)
    c.args.told.now front c.in-Ok.ensures.ok) c.write_told.ensures.ok

pub returns-in-Ok-clause-err : goal.returns-in-Ok-clause-err
returns-in-Ok-clause-err g c =
    let front = ended_piece _ _ _ _ _ c.new-piece.ensures c.push.ensures c.push_zones.ensures.text c.push-2.ensures in
    on_err_weaker c.write_told.result
    (ended_told _ _ _ c.push-2.new.self (number_words (zones_in c.args.zones)) (names_text c.args.grays.now)
    c.args.told.now front c.in-Ok.ensures.ok) c.write_told.ensures.err

pub returns-in-Err-clause-err : goal.returns-in-Err-clause-err
returns-in-Err-clause-err g c =
    let front = ended_piece _ _ _ _ _ c.new-piece.ensures c.push.ensures c.push_zones.ensures.text c.push-2.ensures in
    ended_front _ _ c.push-2.new.self (number_words (zones_in c.args.zones)) (names_text c.args.grays.now)
    c.args.told.now front c.in-Err.ensures.err
