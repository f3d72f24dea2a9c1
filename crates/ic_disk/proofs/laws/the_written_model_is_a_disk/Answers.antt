use Rattle.std.proofs.Common.{inl, refl}
use Rattle.ic_disk.proofs.CourseLemmas.{counted_in, left_is_image_in, nothing_in, read_in, sync_in, told_in, write_in}
use Rattle.ic_disk.proofs.laws.the_written_model_is_a_disk.Goals as goal

pub returns-clause-counted : goal.returns-clause-counted
returns-clause-counted g c course midst now is = counted_in c.args.answer.now course.failures is.failures_end

pub returns-clause-length : goal.returns-clause-length
returns-clause-length g c told course may = told_in told course may

pub returns-clause-bytes : goal.returns-clause-bytes
returns-clause-bytes g c at old new course may = read_in at c.args.answer.now old new course may

pub returns-clause-writes : goal.returns-clause-writes
returns-clause-writes g c w course now may = write_in w course c.args.answer.now now may

pub returns-clause-syncs : goal.returns-clause-syncs
returns-clause-syncs g c course now is may = sync_in course is.content_is_image c.args.answer.now now may

pub returns-clause-unchanged : goal.returns-clause-unchanged
returns-clause-unchanged g c course = nothing_in c.args.answer.now course

pub returns-clause-image_is_left : goal.returns-clause-image_is_left
returns-clause-image_is_left g c course t file come image = (course.calls, come, inl (refl, image))

pub returns-clause-left_is_image : goal.returns-clause-left_is_image
returns-clause-left_is_image g c course file is left = left_is_image_in course file is left
