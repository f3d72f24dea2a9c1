use Rattle.std.proofs.Common.{◌∙◌, Err, take, ap}
use Rattle.ic_inspect.proofs.FieldLemmas.{body_read, whole_read, form_read, no_form_read}
use Rattle.ic_inspect.proofs.looking.body_at.Goals as goal

pub returns-in-Ok : goal.returns-in-Ok
returns-in-Ok c =
    let at = c.args.at in
    let file = c.args.file.now in
    let front = c.split_at-2.result.0.now in
    let read = body_read at file front c.args.count c.requires.count (c.split_at-2.ensures.front ∙ ap (take c.args.count) c.split_at.ensures.back) in (
      whole_read c.a_slot_is_open_or_whole.ensures.whole at file c.args.count _ c.requires.count c.if-count-gt-MAX_BODY.false c.if-count-rest.false c.split_at.ensures.back_len,
      c.in-Ok.ensures.sound,
      form_read c.in-Ok.table at file front c.in-Ok.ensures.table read,
    )

pub returns-in-Err-NotATable : goal.returns-in-Err-NotATable
returns-in-Err-NotATable c =
    let at = c.args.at in
    let file = c.args.file.now in
    let front = c.split_at-2.result.0.now in
    let read = body_read at file front c.args.count c.requires.count (c.split_at-2.ensures.front ∙ ap (take c.args.count) c.split_at.ensures.back) in (
      whole_read c.a_slot_is_open_or_whole.ensures.whole at file c.args.count _ c.requires.count c.if-count-gt-MAX_BODY.false c.if-count-rest.false c.split_at.ensures.back_len,
      no_form_read at file front (c.in-Err-NotATable.ensures.refused (ap Err c.in-Err-NotATable.field-0-is)) read,
    )
