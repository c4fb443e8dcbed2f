use Rattle.fill.proofs.Classes.{size_of, refused-data, small-data, int-data, fixed-data, char-data, moment-data, text-data, holder-data, identity-data, reference-data}
use Rattle.fill.proofs.data_at.Goals as goal

pub fixed_number-requires : goal.fixed_number-requires
fixed_number-requires c = (size_of c.ranges.ty c.class_in.ensures c.in-Fixed.is, c.requires)

pub returns-in-Refused : goal.returns-in-Refused
returns-in-Refused c = refused-data c.requires c.ranges.ty c.class_in.ensures c.in-Refused.is

pub returns-in-Small : goal.returns-in-Small
returns-in-Small c = small-data c.requires c.ranges.ty c.class_in.ensures c.in-Small.is c.implied_number.ensures c.implied_number.type_inv c.plain.ensures

pub returns-in-Int : goal.returns-in-Int
returns-in-Int c = int-data c.requires c.ranges.ty c.class_in.ensures c.in-Int.is c.int_number.ensures c.number_data.ensures

pub returns-in-Fixed : goal.returns-in-Fixed
returns-in-Fixed c = fixed-data c.requires c.ranges.ty c.class_in.ensures c.in-Fixed.is c.fixed_number.ensures c.number_data-in-Fixed.ensures

pub returns-in-Char : goal.returns-in-Char
returns-in-Char c = char-data c.requires c.ranges.ty c.class_in.ensures c.in-Char.is c.code_number.ensures c.number_data-in-Char.ensures

pub returns-in-Parts : goal.returns-in-Parts
returns-in-Parts c = moment-data c.requires c.ranges.ty c.class_in.ensures c.in-Parts.is c.moment_data.ensures

pub returns-in-Text : goal.returns-in-Text
returns-in-Text c = text-data c.requires c.ranges.ty c.class_in.ensures c.in-Text.is c.text_data.ensures

pub returns-in-Holder : goal.returns-in-Holder
returns-in-Holder c = holder-data c.requires c.ranges.ty c.class_in.ensures c.in-Holder.is c.holder_data.ensures

pub returns-in-Identity : goal.returns-in-Identity
returns-in-Identity c = identity-data c.requires c.ranges.ty c.class_in.ensures c.in-Identity.is c.identity_data.ensures

pub returns-in-Reference : goal.returns-in-Reference
returns-in-Reference c = reference-data c.requires c.ranges.ty c.class_in.ensures c.in-Reference.is c.amount_number.ensures c.number_data-in-Reference.ensures
