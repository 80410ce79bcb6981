-- A node at a time: the expression that begins there has its first part right behind, and its second part behind that.
use Rattle.std.proofs.Common.{arith}
use Rattle.spelling.proofs.Nodes.{begins_within, numeral_writes, numeral_ends, variable_fits, variable_writes, variable_ends, left_stands, right_stands, apply_writes, apply_ends}
use Rattle.spelling.proofs.expressions.+put_nodes.Goals as goal

pub put_variable-requires : goal.put_variable-requires
put_variable-requires t c = variable_fits c.args.program.now c.args.at c.requires.within _ c.in-Variable.is c.requires.stands

pub put_nodes-middle-requires : goal.put_nodes-middle-requires
put_nodes-middle-requires t c =
    let p = c.args.program.now in
    let s = left_stands p c.args.at c.requires.within _ c.in-Apply.is c.requires.stands in
    let within = begins_within p _ s in
    (omega (arith, c.decreases), (within, s))

pub put_nodes-stop-requires : goal.put_nodes-stop-requires
put_nodes-stop-requires t c =
    let p = c.args.program.now in
    let s = right_stands p c.args.at c.requires.within _ c.in-Apply.is c.requires.stands _ c.put_nodes-middle.ensures.ends in
    let within = begins_within p _ s.1 in
    (omega (arith, c.decreases, s.0), (within, s.1))

pub returns-in-Numeral : goal.returns-in-Numeral
returns-in-Numeral t c =
    let p = c.args.program.now in
    record {
      writes = numeral_writes p c.args.at c.requires.within _ c.in-Numeral.is c.put_numeral.ensures;
      ends = numeral_ends p c.args.at c.requires.within _ c.in-Numeral.is;
    }

pub returns-in-Variable : goal.returns-in-Variable
returns-in-Variable t c =
    let p = c.args.program.now in
    record {
      writes = variable_writes p c.args.at c.requires.within _ c.in-Variable.is c.put_variable.ensures;
      ends = variable_ends p c.args.at c.requires.within _ c.in-Variable.is;
    }

pub returns-in-Apply : goal.returns-in-Apply
returns-in-Apply t c =
    let p = c.args.program.now in
    record {
      writes = apply_writes p c.args.at c.requires.within _ c.in-Apply.is _ c.put_nodes-middle.ensures.ends
          c.put_symbol.ensures c.put_nodes-middle.ensures.writes c.put_operator.ensures c.put_nodes-stop.ensures.writes c.put_symbol-in-Apply.ensures;
      ends = apply_ends p c.args.at c.requires.within _ c.in-Apply.is _ _ c.put_nodes-middle.ensures.ends c.put_nodes-stop.ensures.ends;
    }
