-- `entries::field_ok` meets its contract. Assumes nothing.
use borrow.Author.Tests.{le-ltb}
use Rattle.entries.proofs.Places.{limit_none}
use Rattle.entries.specs.Fields.{field_ok}
use Rattle.entries.proofs.field_ok.Goals as goal

pub returns-then-role-limits : goal.returns-then-role-limits
unfolding field_ok
returns-then-role-limits c = rw (c.field_at.ensures, c.wide-role.ensures, c.role_at.ensures)

pub returns-else-role-limits : goal.returns-else-role-limits
unfolding field_ok
returns-else-role-limits c =
    rw (le-ltb _ _ c.if-role-limits.false) (limit_none c.args.limits.now _ _ (rw (c.wide-role.ensures, c.role_at.ensures) at c.if-role-limits.false))
