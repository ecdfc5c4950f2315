use Rattle.std.proofs.Common.{length}
use Rattle.dsde_parser_expressions.proofs.parser.Parser.+read_type.Given as goal

abbrev pub decreases-part_type : goal.decreases-part_type
decreases-part_type l = length l.self.now.1

abbrev pub decreases-type_name : goal.decreases-type_name
decreases-type_name l = length l.self.now.1
