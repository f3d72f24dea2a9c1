use Rattle.std.proofs.Common.{◌∙◌, Bor, List, Option, Some, ap, map, option_map, subst, sym}
use Rattle.std.specs.Prelude.{string_bytes}
use Rattle.std.proofs.lemmas.Result.{IfOk-weaker}
use Rattle.clap.specs.Words.{Row, Text, found_of, rows_of}
use Rattle.clap.specs.declared.parser.matches.ArgMatches.{ArgMatches}
use Rattle.ic_args.specs.Words.{IsAsked, command_line}
use Rattle.ic_args.proofs.Meeting.{met_of}
use Rattle.ic_args.proofs.words.read_words.Goals as goal

pub returns-in-Some : goal.returns-in-Some
returns-in-Some c =
    let table = c.args.table.now in
    let words = map string_bytes c.args.words.now in
    let name = ap (option_map (λ (p : Bor Text × ArgMatches). p.0.now)) (sym c.in-Some.is) ∙ c.remove_subcommand.ensures.name in
    let rows = ap (option_map (λ (p : Bor Text × ArgMatches). rows_of (found_of p.1))) (sym c.in-Some.is) ∙ c.remove_subcommand.ensures.rows in
    let met = met_of _ (command_line table) words c.in-Ok.matches c.in-Some.name.now (rows_of (found_of c.in-Some.met)) c.in_ok-command.ensures c.requires c.in-Ok.ensures.matches (sym name) (sym rows) in
    IfOk-weaker c.asked.result _ (IsAsked table words)
    (λ request is. subst (IsAsked table words) (sym is.2) (c.in-Some.name.now, is.1, met)) c.asked.ensures

pub returns : goal.returns
returns c =
    let table = c.args.table.now in
    let words = map string_bytes c.args.words.now in
    IfOk-weaker c.refused.result _ (IsAsked table words) (λ request is. subst (IsAsked table words) (sym is.1) tt) c.refused.ensures
