use Rattle.ic_expand.proofs.opening.open_rich.Goals as goal

pub returns-clause-rich : goal.returns-clause-rich
returns-clause-rich g c = (
  c.rich_with.ensures.expanded,
  c.in_ok-out.out.text.items,
  c.rich_with.ensures.left,
  c.in_ok-out.ensures.text,
)
