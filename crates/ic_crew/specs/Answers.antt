-- What a worker sends back for a work.
use Rattle.std.specs.Prelude.{◌≡◌, ℕ, List, IsTrue, refl}
use Rattle.std.specs.Coded.{Coded, code_by, coded×, coded_ℕ, coded_list}
use Rattle.ic_term.specs.Tree.{Tree, Pair}
use Rattle.ic_term.specs.lemmas.TreeLaws.{coded_tree, coded_pair}
use Rattle.ic_rules.specs.RuleSet.{Rules}
use Rattle.ic_rules.specs.lemmas.Codings.{coded_rules}
use Rattle.ic_round.specs.Works.{PlainWork, PlainFired, suits, result_of}

-- the rules, a work, and its products
pub record AnswerParts : Type 0 where
  pub rules : Rules
  pub work : PlainWork
  pub fired : PlainFired

-- What each answer keeps: the work suits the rules, and the products are those of the work.
pub record IsAnswer (a : AnswerParts) : Type 0 where
  pub suits : IsTrue (suits a.rules.rules a.work)
  pub fired : a.fired ≡ result_of a.rules.rules a.work

-- the answer to a work
abbrev pub answer_to : Rules → PlainWork → AnswerParts
answer_to rs w = record { rules = rs; work = w; fired = result_of rs.rules w }

-- an answer is stored as the tuple of its fields
abbrev pub coded_answer : Coded AnswerParts
coded_answer =
    code_by (Rules × (ℕ × (ℕ × (ℕ × (Tree × (Tree × (ℕ × List Pair)))))))
    (coded× coded_rules (coded× coded_ℕ (coded× coded_ℕ (coded× coded_ℕ
    (coded× coded_tree (coded× coded_tree (coded× coded_ℕ (coded_list coded_pair))))))))
    (λ a. (
      a.rules,
      (
        a.work.place,
        (
          a.work.base,
          (
            a.work.active.rule,
            (a.work.active.left, (a.work.active.right, (a.fired.place, a.fired.products))),
          ),
        ),
      ),
    ))
    (λ p. record {
      rules = p.0;
      work = record {
        place = p.1.0;
        base = p.1.1.0;
        active = record { rule = p.1.1.1.0; left = p.1.1.1.1.0; right = p.1.1.1.1.1.0 };
      };
      fired = record { place = p.1.1.1.1.1.1.0; products = p.1.1.1.1.1.1.1 };
    })
    (λ _. refl)
