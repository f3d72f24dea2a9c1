use Rattle.std.proofs.Common.{◌∙◌, take, ap}
use Rattle.ic_inspect.proofs.FieldLemmas.{size_read}
use Rattle.ic_inspect.proofs.looking.size_at.Goals as goal

pub returns : goal.returns
returns c =
    size_read c.args.at c.args.file.now c.copy_from_slice.new.self c.from_be_bytes.result
    (c.copy_from_slice.ensures.after ∙ c.split_at-2.ensures.front ∙ ap (take 4) c.split_at.ensures.back) c.from_be_bytes.ensures
