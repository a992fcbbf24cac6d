use Rattle.std.proofs.Common.{◌≡◌, sym, ap, rules}
use Rattle.cil_semantics.specs.Core.{prim_name, prim_names}
use Rattle.member_table.proofs.names.prim_name.Goals as goal

pub returns-in-1 : goal.returns-in-1
unfolding prim_name prim_names
returns-in-1 c = sym (ap prim_name c.in-1.is)

pub returns-in-2 : goal.returns-in-2
unfolding prim_name prim_names
returns-in-2 c = sym (ap prim_name c.in-2.is)

pub returns-in-3 : goal.returns-in-3
unfolding prim_name prim_names
returns-in-3 c = sym (ap prim_name c.in-3.is)

pub returns-in-4 : goal.returns-in-4
unfolding prim_name prim_names
returns-in-4 c = sym (ap prim_name c.in-4.is)

pub returns-in-5 : goal.returns-in-5
unfolding prim_name prim_names
returns-in-5 c = sym (ap prim_name c.in-5.is)

pub returns-in-6 : goal.returns-in-6
unfolding prim_name prim_names
returns-in-6 c = sym (ap prim_name c.in-6.is)

pub returns-in-7 : goal.returns-in-7
unfolding prim_name prim_names
returns-in-7 c = sym (ap prim_name c.in-7.is)

pub returns-in-8 : goal.returns-in-8
unfolding prim_name prim_names
returns-in-8 c = sym (ap prim_name c.in-8.is)

pub returns-in-9 : goal.returns-in-9
unfolding prim_name prim_names
returns-in-9 c = sym (ap prim_name c.in-9.is)

pub returns-in-10 : goal.returns-in-10
unfolding prim_name prim_names
returns-in-10 c = sym (ap prim_name c.in-10.is)

pub returns-in-11 : goal.returns-in-11
unfolding prim_name prim_names
returns-in-11 c = sym (ap prim_name c.in-11.is)

pub returns-in-12 : goal.returns-in-12
unfolding prim_name prim_names
returns-in-12 c = sym (ap prim_name c.in-12.is)

pub returns-in-13 : goal.returns-in-13
unfolding prim_name prim_names
returns-in-13 c = sym (ap prim_name c.in-13.is)

pub returns-in-14 : goal.returns-in-14
unfolding prim_name prim_names
returns-in-14 c = sym (ap prim_name c.in-14.is)

pub returns-in-22 : goal.returns-in-22
unfolding prim_name prim_names
returns-in-22 c = sym (ap prim_name c.in-22.is)

pub returns-in-24 : goal.returns-in-24
unfolding prim_name prim_names
returns-in-24 c = sym (ap prim_name c.in-24.is)

pub returns-in-25 : goal.returns-in-25
unfolding prim_name prim_names
returns-in-25 c = sym (ap prim_name c.in-25.is)

pub returns-in-28 : goal.returns-in-28
unfolding prim_name prim_names
returns-in-28 c = sym (ap prim_name c.in-28.is)

pub returns-in_default : goal.returns-in_default
unfolding prim_name prim_names
returns-in_default c = search (rules, c.in_default)
