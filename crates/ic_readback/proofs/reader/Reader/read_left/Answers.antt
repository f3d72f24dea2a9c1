use Rattle.ic_arena.specs.Piece.{waits}
use Rattle.ic_readback.specs.declared.reader.Reader.{Reader}
use Rattle.ic_readback.proofs.Readers.{gather_on, gather_once, gather_pieces, all_idle}
use Rattle.ic_readback.proofs.reader.Reader.read_left.Goals as goal

pub returns-clause-read : goal.returns-clause-read
returns-clause-read c =
    gather_on c.args.self.now c.read_names.new.self c.read_agents.new.self c.args.loose.now.items c.read_names.new.loose.items c.read_agents.new.loose.items
    c.in_ok-read_names.ensures.read c.in_ok-read_agents.ensures.read

pub returns-clause-idle : goal.returns-clause-idle
returns-clause-idle c = λ once.
    let mid : Reader = c.read_names.new.self in
    let new : Reader = c.read_agents.new.self in
    all_idle new.places.arities new.places.pieces c.in_ok-read_agents.ensures.held
    (λ x u there. c.in_ok-read_names.ensures.none x u
    (gather_pieces (waits x u) mid new c.read_names.new.loose.items c.read_agents.new.loose.items c.in_ok-read_agents.ensures.read there))
    (c.in_ok-read_agents.ensures.none (gather_once c.args.self.now mid c.args.loose.now.items c.read_names.new.loose.items c.in_ok-read_names.ensures.read once))
