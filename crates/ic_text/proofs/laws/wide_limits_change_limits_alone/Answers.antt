use Rattle.ic_text.proofs.WiderLimits.{wider_config, wider_system}
use Rattle.ic_text.proofs.laws.wide_limits_change_limits_alone.Goals as goal

pub returns : goal.returns
returns c = record { config = wider_config; system = wider_system }
