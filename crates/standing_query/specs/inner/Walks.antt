-- The operands of an expression.
use Rattle.gcl_model.specs.Forms.{Form, Forms, both, one, seq, containing, contained_in, not_containing, not_contained_in, no_forms}

-- the first operand of a containment; any other expression as it is
abbrev pub first_operand : Form → Form
first_operand (containing a b) = a
first_operand (contained_in a b) = a
first_operand (not_containing a b) = a
first_operand (not_contained_in a b) = a
first_operand form = form

-- the second operand of a containment; any other expression as it is
abbrev pub second_operand : Form → Form
second_operand (containing a b) = b
second_operand (contained_in a b) = b
second_operand (not_containing a b) = b
second_operand (not_contained_in a b) = b
second_operand form = form

-- the operands of a chain; nothing else has any
abbrev pub chain_operands : Form → Forms
chain_operands (both forms) = forms
chain_operands (one forms) = forms
chain_operands (seq forms) = forms
chain_operands form = no_forms
