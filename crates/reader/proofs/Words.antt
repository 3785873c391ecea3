-- Each keyword is what its own word is.
use Rattle.std.proofs.Common.{refl}
use Rattle.reader.specs.Keywords.{keyword, KeywordsReadBack}
use Rattle.reader.specs.declared.keyword.Keyword.TheVariants.{Def, Let, Enum, If, While, Do, Set, Vec, Setv, New, Sys, Add, Sub, Eq, Lt, Gt}

pub keywords_read_back : KeywordsReadBack
unfolding keyword
keywords_read_back Def = refl
keywords_read_back Let = refl
keywords_read_back Enum = refl
keywords_read_back If = refl
keywords_read_back While = refl
keywords_read_back Do = refl
keywords_read_back Set = refl
keywords_read_back Vec = refl
keywords_read_back Setv = refl
keywords_read_back New = refl
keywords_read_back Sys = refl
keywords_read_back Add = refl
keywords_read_back Sub = refl
keywords_read_back Eq = refl
keywords_read_back Lt = refl
keywords_read_back Gt = refl
