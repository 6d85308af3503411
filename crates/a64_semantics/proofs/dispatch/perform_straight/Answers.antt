use Rattle.std.proofs.Common.{subst, sym}
use Rattle.a64_semantics.specs.Performs.{Performs}
use Rattle.a64_semantics.proofs.dispatch.perform_straight.Goals as goal

pub returns-in-AddSubImmediate : goal.returns-in-AddSubImmediate
returns-in-AddSubImmediate c = subst (λ i. Performs i c.args.registers.now c.add_sub_immediate.new.registers) (sym c.in-AddSubImmediate.is) c.add_sub_immediate.ensures

pub returns-in-LogicalImmediate : goal.returns-in-LogicalImmediate
returns-in-LogicalImmediate c = subst (λ i. Performs i c.args.registers.now c.logical_immediate.new.registers) (sym c.in-LogicalImmediate.is) c.logical_immediate.ensures

pub returns-in-MoveWide : goal.returns-in-MoveWide
returns-in-MoveWide c = subst (λ i. Performs i c.args.registers.now c.move_wide.new.registers) (sym c.in-MoveWide.is) c.move_wide.ensures

pub returns-in-PcRelative : goal.returns-in-PcRelative
returns-in-PcRelative c = subst (λ i. Performs i c.args.registers.now c.pc_relative.new.registers) (sym c.in-PcRelative.is) c.pc_relative.ensures

pub returns-in-Bitfield : goal.returns-in-Bitfield
returns-in-Bitfield c = subst (λ i. Performs i c.args.registers.now c.bitfield.new.registers) (sym c.in-Bitfield.is) c.bitfield.ensures

pub returns-in-LogicalShifted : goal.returns-in-LogicalShifted
returns-in-LogicalShifted c = subst (λ i. Performs i c.args.registers.now c.logical_shifted.new.registers) (sym c.in-LogicalShifted.is) c.logical_shifted.ensures

pub returns-in-AddSubShifted : goal.returns-in-AddSubShifted
returns-in-AddSubShifted c = subst (λ i. Performs i c.args.registers.now c.add_sub_shifted.new.registers) (sym c.in-AddSubShifted.is) c.add_sub_shifted.ensures

pub returns-in-AddSubExtended : goal.returns-in-AddSubExtended
returns-in-AddSubExtended c = subst (λ i. Performs i c.args.registers.now c.add_sub_extended.new.registers) (sym c.in-AddSubExtended.is) c.add_sub_extended.ensures

pub returns-in-ConditionalCompare : goal.returns-in-ConditionalCompare
returns-in-ConditionalCompare c = subst (λ i. Performs i c.args.registers.now c.conditional_compare.new.registers) (sym c.in-ConditionalCompare.is) c.conditional_compare.ensures

pub returns-in-ConditionalSelect : goal.returns-in-ConditionalSelect
returns-in-ConditionalSelect c = subst (λ i. Performs i c.args.registers.now c.conditional_select.new.registers) (sym c.in-ConditionalSelect.is) c.conditional_select.ensures

pub returns-in-TwoSource : goal.returns-in-TwoSource
returns-in-TwoSource c = subst (λ i. Performs i c.args.registers.now c.two_source.new.registers) (sym c.in-TwoSource.is) c.two_source.ensures

pub returns-in-CountLeadingZeros : goal.returns-in-CountLeadingZeros
returns-in-CountLeadingZeros c = subst (λ i. Performs i c.args.registers.now c.count_leading_zeros.new.registers) (sym c.in-CountLeadingZeros.is) c.count_leading_zeros.ensures

pub returns-in-MultiplyAdd : goal.returns-in-MultiplyAdd
returns-in-MultiplyAdd c = subst (λ i. Performs i c.args.registers.now c.multiply_add.new.registers) (sym c.in-MultiplyAdd.is) c.multiply_add.ensures

pub returns-in-MultiplyHigh : goal.returns-in-MultiplyHigh
returns-in-MultiplyHigh c = subst (λ i. Performs i c.args.registers.now c.multiply_high.new.registers) (sym c.in-MultiplyHigh.is) c.multiply_high.ensures
