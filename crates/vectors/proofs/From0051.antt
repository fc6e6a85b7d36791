-- Schedules of tests/vectors and the text that the definitions print for each, computed by the checker. Written by tests/vectors/definitions.
use mathlib.Core.Path.{◌≡◌, refl, sym, ◌∙◌}
use mathlib.Core.List.{List, [], ◌∷◌}
use Prim.Native.String.{String}
use lib.Count.{ones_in, count_trailing_zeros}
use Rattle.container.specs.Choice.{ite}
use Rattle.container.specs.Container.{has, insert, remove, union, cut, below, from, size, least, drop_least, upper_half, lower_half, split_key}
use Rattle.container.specs.Depths.{put, take_out, merge, within, lower, upper}
use Rattle.definitions.specs.Nodes.{check, replaceable}
use Rattle.definitions.specs.Frames.{between, reaches, adding, back}
use Rattle.definitions.specs.Steps.{reached, onward, followed, blocked, lacks, cleared, lost, probe, replaced, beside, reached_first, reached_next, step}
use Rattle.definitions.specs.Records.{taken, stepped, started, asked, record_step}
use Rattle.definitions.specs.Schedule.{count_of, record_at, file_refusal}
use Rattle.definitions.specs.Run.{bytes_of, run_refusal}
use Rattle.definitions.specs.Listing.{decimal, stations_to, stations_text, route_line, base_line, set_line, list_refusal}
use Rattle.definitions.specs.Printed.{action_word, first_line, depth_text, row_line, last_line, printed}
use Rattle.definitions.proofs.Quick.{quick_printed, quick_printed_printed}
use Rattle.vectors.proofs.Written.{file_of, text_of}

-- ---- 0051

abbrev file0051 : List String
file0051 =
    "0101b1020200000000320c300030000000042b0000000030003000210320003000300030003217300030003000323530003000300033103000300022"
    ∷ "042000200020002205200020002000223920002000200024132000200020002433200020002000200020002000211930003000052900000000000000"
    ∷ "00300030003000300000000000000000000000000000000000000000000000000000000000111410001000100014231000100010001000153d100010"
    ∷ "003000300030003000200030003000300020002000251620001000100015311000100010001000141010001000100030003000300030003000300030"
    ∷ "003000300020000000000000000000000000000000042200000000000000000000100011191000100000000426000000001220200020002000223020"
    ∷ "00200020002000200020002122200020002000243220002000000000003000300030003000300030003000323d300010001000100010002000000000"
    ∷ "000402000010001000141910001000100010001000100011271000000000000000000003260000300030003000300030003000320530003000300030"
    ∷ "00300030003000322a300030003000000000000000000030003000300030003000352210001000100011113000300030003000300030003000300030"
    ∷ "00200020002000221f300030003000300030003000300030003000300030003000300030003000300000000000000010001000100015211000100010"
    ∷ "001000130e10002000200020002000200030003000312430003000300000000000000000000000341830003000300030000000023b10001000100010"
    ∷ "001000122410001000100010000000000000000000000000000000053c00002000200020002000200020002000200020002000200020002000241d20"
    ∷ "00300030001000100020002000200020002000212f20002000100010001000100010001000100010001000143a100010001000100010001000100015"
    ∷ "111000000000000000100010001000100010001000100010001000100010003129300030000000000000000000000000000000000010001000100010"
    ∷ "001000100010001000200020002421200020002000200020002310200020002000200020000000000000000000000000000000052700000000000000"
    ∷ "0020003000300033053000300030003000300030003000331230003000"
    ∷ []

abbrev text0051 : List String
text0051 =
    "records 433 of 433 refusal 0;t0 insert 2 yes;t0 split 43 no;t2 lookup 3 no;t3 insert 12 yes;t3 insert 23 yes;t3 insert 5"
    ∷ "3 yes;t2 insert 4 yes;t2 insert 5 yes;t2 insert 57 yes;t2 split 19 yes;t2 split 51 yes;t1 lookup 20 no;t1 split 35 no;t2"
    ∷ " lookup 25 no;t1 join 61 no;t1 join 49 no;t0 join 41 yes;t1 split 16 no;t1 lookup 25 no;t0 split 34 yes;t2 join 22 no;t2"
    ∷ " insert 48 yes;t2 lookup 34 no;t3 remove 16 no;t0 split 38 no;t1 insert 32 yes;t1 split 25 yes;t0 split 2 yes;t3 insert "
    ∷ "61 yes;t3 insert 5 no;t3 insert 42 yes;t1 lookup 39 no;t2 split 50 no;t1 lookup 17 no;t1 join 33 no;t3 join 34 yes;t3 lo"
    ∷ "okup 36 no;t0 remove 38 no;t1 remove 14 no;t0 insert 59 yes;t2 insert 31 yes;t3 split 24 no;t2 split 29 yes;t1 insert 36"
    ∷ " yes;t1 split 58 yes;t2 lookup 47 no;t2 split 33 no;t0 join 60 no;t3 lookup 41 no;t3 remove 5 yes;0 route 12;1 route 4;2"
    ∷ " normal 2;2 normal 4;1 route 53;2 route 32;3 main 12 23 31;3 neighbour 32 36 42 48;2 route 59;3 neighbour 53 57;3 main 5"
    ∷ "9 61;set 2 4 12 23 31 32 36 42 48 53 57 59 61;stored 13 used 52;"
    ∷ []

computed0051 : quick_printed (file_of file0051) ≡ text_of text0051
unfolding bytes_of record_at between reaches adding back reached_first reached_next asked put take_out merge within lower upper depth_text row_line
    decimal stations_to stations_text route_line base_line set_line list_refusal check replaceable action_word first_line last_line taken stepped
    started record_step run_refusal count_of file_refusal reached onward followed blocked lacks cleared lost probe replaced beside step ite has insert
    remove union cut below from size least drop_least upper_half lower_half split_key ones_in count_trailing_zeros
computed0051 = refl

pub printed0051 : printed (file_of file0051) ≡ text_of text0051
printed0051 = sym (quick_printed_printed (file_of file0051)) ∙ computed0051

-- ---- 0052

abbrev file0052 : List String
file0052 =
    "0100ef052532260000212400000224000012210000100000001000100020003000100010001000022121232000000030000000100000000000000011"
    ∷ "242225000010001225300000001000300020003000022520003000200000000000222220001000200030000000300020001000100030000225200030"
    ∷ "003000322530000000000030000000022320000000100020001000300000002000222800001000300030003000200030003422200000002000200010"
    ∷ "002000300020001000000030002000100030002225100000002000322130001000200020001000300030002223000020003000300010003000200020"
    ∷ "002421100030001000000030001000000010002000300010000000300030002000200022280000300030000000200014213000000010003000200000"
    ∷ "000000200000003224100030000000200020003000200030000000000020000000322210000000122510000000000010002000022200001000000030"
    ∷ "000000100010000226300000003000100000001000200020000000200030001221100025223000300010001000000030002000122430002000000021"
    ∷ "283000200022271000300000003000100032260000000010001000000010003000300000001000000020000121000010003000022100003000100010"
    ∷ "00"
    ∷ []

abbrev text0052 : List String
text0052 =
    "records 239 of 239 refusal 0;t0 join 37 no;t0 insert 36 yes;t2 lookup 36 yes;t2 lookup 35 no;t1 insert 33 yes;t1 lookup "
    ∷ "36 yes;t0 insert 33 no;t2 insert 37 yes;t0 insert 37 no;t3 insert 38 yes;t0 insert 37 no;t2 insert 34 yes;t3 insert 37 n"
    ∷ "o;t2 insert 40 yes;t3 split 34 no;t2 insert 37 no;t2 insert 35 yes;t1 insert 37 no;t2 split 33 no;t3 insert 33 no;t3 ins"
    ∷ "ert 36 no;t1 split 33 no;t0 insert 35 no;t0 insert 34 no;t1 insert 37 no;t2 insert 40 no;t1 insert 33 no;t2 join 34 no;t"
    ∷ "2 lookup 40 yes;t3 insert 34 no;t0 insert 38 no;t0 lookup 33 yes;0 normal 33 34 35 36 37 38 40;set 33 34 35 36 37 38 40;"
    ∷ "stored 7 used 23;"
    ∷ []

computed0052 : quick_printed (file_of file0052) ≡ text_of text0052
unfolding bytes_of record_at between reaches adding back reached_first reached_next asked put take_out merge within lower upper depth_text row_line
    decimal stations_to stations_text route_line base_line set_line list_refusal check replaceable action_word first_line last_line taken stepped
    started record_step run_refusal count_of file_refusal reached onward followed blocked lacks cleared lost probe replaced beside step ite has insert
    remove union cut below from size least drop_least upper_half lower_half split_key ones_in count_trailing_zeros
computed0052 = refl

pub printed0052 : printed (file_of file0052) ≡ text_of text0052
printed0052 = sym (quick_printed_printed (file_of file0052)) ∙ computed0052

-- ---- 0053

abbrev file0053 : List String
file0053 =
    "0101000221000000000000031f000000000000033400000000122310001000000001220000212a200023202000200020002235100010001000100020"
    ∷ "002000200010001000100035333000300003310000312e0000212b200030003525300000000529100010000000000005320000300031373000332c21"
    ∷ "372000253220002000222b100010001000100011211000132b1000100010001428100030003000300035293000300033201000100012301000100010"
    ∷ "00152f1000100013331000100010001136200020001000132800002000222120002000200021222000052b0000000003230000000000000233000000"
    ∷ "000000052d0000000001320000031d00000000100010001000231f200020002000152300000000000010001000133410001000100015202127300030"
    ∷ "0030003530300030003329300030003000332a30003000300031273000313530003332300030003000352f3000300000000000000020002228200020"
    ∷ "000000000000003528300010000130000005221000132510001000100011351000152f10002000200000001000133610001000100013311000100010"
    ∷ "0015361000100014341000100020003000332f200010000000012a000000000223000000002000200020002000200020002000212e2000132d300030"
    ∷ "00300030003000312530003000351e3000300030003000300030003000300030003000"
    ∷ []

abbrev text0053 : List String
text0053 =
    "records 256 of 256 refusal 0;t0 insert 33 yes;t0 remove 31 no;t0 remove 52 no;t0 lookup 34 no;t2 lookup 42 no;t2 remove "
    ∷ "32 no;t2 insert 53 yes;t3 join 51 no;t2 lookup 43 no;t3 lookup 46 no;t0 remove 49 no;t0 join 41 no;t3 join 37 no;t3 look"
    ∷ "up 55 no;t2 lookup 55 no;t2 join 50 no;t1 insert 35 yes;t1 lookup 33 yes;t1 remove 43 no;t3 remove 44 no;t3 join 41 no;t"
    ∷ "1 split 40 no;t1 insert 48 yes;t1 join 47 no;t1 remove 51 no;t1 lookup 54 no;t0 join 50 no;t2 insert 43 yes;t2 insert 33"
    ∷ " no;t2 lookup 34 no;t0 join 43 no;t0 remove 35 yes;t0 insert 51 yes;t0 join 45 no;t0 lookup 50 no;t1 remove 40 no;t2 rem"
    ∷ "ove 31 no;t1 join 35 no;t1 remove 52 no;t3 remove 32 no;t3 join 48 no;t3 remove 41 no;t3 remove 42 no;t3 lookup 39 no;t3"
    ∷ " lookup 53 yes;t3 remove 50 no;t3 join 47 no;t2 lookup 39 no;t0 remove 29 no;t0 lookup 48 yes;t1 join 32 no;t1 remove 37"
    ∷ " no;t1 lookup 53 yes;t1 join 47 no;t1 remove 54 no;t1 remove 49 no;t1 join 54 no;t3 join 40 no;t1 split 52 yes;t0 join 3"
    ∷ "4 no;t0 lookup 42 no;t2 insert 40 yes;t3 remove 47 no;t3 lookup 37 no;0 route 48;1 main 33 40 43;1 neighbour 48 51 53;se"
    ∷ "t 33 40 43 48 51 53;stored 6 used 34;"
    ∷ []

computed0053 : quick_printed (file_of file0053) ≡ text_of text0053
unfolding bytes_of record_at between reaches adding back reached_first reached_next asked put take_out merge within lower upper depth_text row_line
    decimal stations_to stations_text route_line base_line set_line list_refusal check replaceable action_word first_line last_line taken stepped
    started record_step run_refusal count_of file_refusal reached onward followed blocked lacks cleared lost probe replaced beside step ite has insert
    remove union cut below from size least drop_least upper_half lower_half split_key ones_in count_trailing_zeros
computed0053 = refl

pub printed0053 : printed (file_of file0053) ≡ text_of text0053
printed0053 = sym (quick_printed_printed (file_of file0053)) ∙ computed0053

-- ---- 0054

abbrev file0054 : List String
file0054 =
    "01017b231720000217200020000000311712162516200000001000300034163000000020000217300000002516100035160000100030000000100020"
    ∷ "000216000000000000300005171000351730000000100020000000221604162000000020001000300032170000200030003000200012173000351630"
    ∷ "003000341710000000051700001000000002172000000010002000151720003000300020001000200010003000200020000000141600000000100010"
    ∷ "003516000030001000121600002000000030001000300000003000100010003000100020003000100030000000351700003000151620000217200000"
    ∷ "000000000030002000100000003000100000003000100030002000300000000416300000003000000025160000351620001000100030002000300030"
    ∷ "000417200013160000200020000000100020002000000005173000200020000000200000001000000004163000200000000000200000000517341630"
    ∷ "003000200000000000000020001000300032160517200030002000300030001000300010000000300010003000200030001000100010003000100020"
    ∷ "003000300020002000100010000000100030003000300032160000300030000217000000000000300002161517200000002417200030002000300020"
    ∷ "002516000000000000200010003000000020003000100030001000300010001000000030002000300010001000200000000000300010003000000010"
    ∷ "001000000032173000100000003000000020003000300014162000200022170000200000002000100000000117200030003000000020000000200034"
    ∷ "163000100004162000200010003000300034172000300030001416000030000000321600001000300020003000200030002000200010000216000000"
    ∷ "002216100000003000200030000000321700002000300020001216000010000000300020002000300024163000100030001000200020001000000030"
    ∷ "0035163000200025162000000030003000300010001417000010000000300030000000300020003517"
    ∷ []

abbrev text0054 : List String
text0054 =
    "records 379 of 379 refusal 0;t2 remove 23 no;t3 lookup 23 no;t0 insert 23 yes;t2 join 22 no;t3 split 22 no;t0 insert 23 "
    ∷ "no;t0 insert 22 yes;t3 join 22 no;t2 join 22 no;t0 join 23 no;t1 insert 22 no;t3 join 23 no;t3 insert 23 no;t3 join 22 n"
    ∷ "o;t0 split 22 no;t0 join 23 no;t1 insert 23 no;t1 join 23 no;t3 split 23 yes;t1 split 22 no;t1 insert 22 no;t3 join 22 n"
    ∷ "o;t0 insert 23 no;t2 insert 22 no;t0 insert 23 no;t3 join 23 no;t0 split 22 no;t1 join 22 no;t0 split 23 no;t0 join 23 n"
    ∷ "o;t3 join 22 no;t0 split 22 no;t0 join 23 no;t3 split 22 no;t1 remove 22 yes;t3 insert 22 yes;t0 join 23 no;t0 insert 23"
    ∷ " no;t2 join 22 yes;t2 split 23 yes;t3 insert 22 no;t1 join 23 no;t2 join 22 no;t0 insert 22 no;t3 insert 23 no;t0 lookup"
    ∷ " 23 yes;t1 split 22 no;t3 split 22 no;t3 split 23 no;t0 split 22 no;t2 insert 23 no;t1 split 22 no;t3 insert 22 no;t2 in"
    ∷ "sert 22 no;t3 insert 23 no;t2 split 22 no;t1 insert 22 no;t3 join 22 no;0 route 23;1 normal 22;1 normal 23;set 22 23;sto"
    ∷ "red 2 used 33;"
    ∷ []

computed0054 : quick_printed (file_of file0054) ≡ text_of text0054
unfolding bytes_of record_at between reaches adding back reached_first reached_next asked put take_out merge within lower upper depth_text row_line
    decimal stations_to stations_text route_line base_line set_line list_refusal check replaceable action_word first_line last_line taken stepped
    started record_step run_refusal count_of file_refusal reached onward followed blocked lacks cleared lost probe replaced beside step ite has insert
    remove union cut below from size least drop_least upper_half lower_half split_key ones_in count_trailing_zeros
computed0054 = refl

pub printed0054 : printed (file_of file0054) ≡ text_of text0054
printed0054 = sym (quick_printed_printed (file_of file0054)) ∙ computed0054

-- ---- 0055

abbrev file0055 : List String
file0055 =
    "0100b30422000000001423100010001420100010001220100010001000142210001000141e10001000142510001000141f1000100014211000100012"
    ∷ "241000100010001425100010001000141e10001000021f000000001000142510002223000000000000041f0000000020002000200020002000221e20"
    ∷ "0020002000200020002425200020002000242020002000200020002000222120002000341f0000000000000425000030003000300030003000300032"
    ∷ "1e3000300030003000300030003000342130003000300030003000300020002000200020003000341e30003000100010001421100010003000100010"
    ∷ "001000142210000000000002230000200020002000200020002000200020002000241f00000000200020002000200020002225000000000000000000"
    ∷ "00011f0000000000000000012030003000311f30003000300000000000000000000420000030003123200030003000200030003000341e3000300030"
    ∷ "00"
    ∷ []

abbrev text0055 : List String
text0055 =
    "records 179 of 179 refusal 0;t0 split 34 no;t1 split 35 no;t1 split 32 no;t1 insert 32 yes;t1 split 34 no;t1 split 30 no"
    ∷ ";t1 split 37 no;t1 split 31 no;t1 split 33 no;t1 insert 36 yes;t1 split 37 yes;t1 split 30 no;t0 insert 31 yes;t2 insert"
    ∷ " 35 yes;t2 insert 30 yes;t2 split 37 no;t2 split 32 yes;t0 split 31 no;t3 split 31 yes;t3 insert 30 no;t3 split 33 yes;t"
    ∷ "1 split 37 no;t1 split 33 no;t0 split 37 no;t2 insert 33 yes;t2 split 31 no;t0 insert 35 no;t0 lookup 31 yes;t3 split 30"
    ∷ " no;t0 lookup 32 yes;t3 lookup 31 yes;t3 lookup 35 yes;0 route 36;1 route 32;2 route 31;3 normal 30;3 normal 31;2 route "
    ∷ "35;3 normal 32 33;3 normal 35;1 normal 36;set 30 31 32 33 35 36;stored 6 used 21;"
    ∷ []

computed0055 : quick_printed (file_of file0055) ≡ text_of text0055
unfolding bytes_of record_at between reaches adding back reached_first reached_next asked put take_out merge within lower upper depth_text row_line
    decimal stations_to stations_text route_line base_line set_line list_refusal check replaceable action_word first_line last_line taken stepped
    started record_step run_refusal count_of file_refusal reached onward followed blocked lacks cleared lost probe replaced beside step ite has insert
    remove union cut below from size least drop_least upper_half lower_half split_key ones_in count_trailing_zeros
computed0055 = refl

pub printed0055 : printed (file_of file0055) ≡ text_of text0055
printed0055 = sym (quick_printed_printed (file_of file0055)) ∙ computed0055

-- ---- 0056

abbrev file0056 : List String
file0056 =
    "01021f030d00000000000001110000010e00000211210c2000000000000000010f0000051100000000010c00000310000000000000310f3000310c30"
    ∷ "00351030003000350c30002511200020003000320c30003000300022112000200020002510200020002310320d300030003000321030003000300034"
    ∷ "0d300030003000200020002000200020002000250d20002000120e10001000100010001000110f10001000130d100010001000351030003000300020"
    ∷ "0020002000211020003000300030003000010f0000000001103000300010001000120f100000000000030d00000000000000000000050d0000000000"
    ∷ "00000000000000020d00000000000000000000021100003000300035103000300010001000100010001310100010001000100010001000130d100010"
    ∷ "00100010001000120d100010002000250f20002000200020002000100010001000150d10001000100010001000100010001000100010001000100010"
    ∷ "00100000000000300030003000350f3000300030001000100010001000100010001000140d100010001000150f100010001000100020002000000000"
    ∷ "000000100010001000350f30003000220c20002000200020002000221120002000200020002000100010001000100020002000200030003000300033"
    ∷ "0e3000300030003000300020002000200020003000350d30003000300030003000300030003000300030003000300030003000300030003000300030"
    ∷ "003000300032113000300000000000200020002000200030003211300030003000310e3000320d3000300030003411300030003000330e3000300030"
    ∷ "0030003000320f300020002000200020002000200020002000220d200020002000200020002210200020002000200020002000210f20002000251020"
    ∷ "003000300030003000200020002000200020002000200020002000200020002000200020002000200020002000200000000000000000000000151110"
    ∷ "001000110e10001311100010001000140d10001000100015111000250d20002000200020002000200020002000200020002000200020002000200020"
    ∷ "00200020002000041030003000300030001000000000000000031000000000000000001000111000000000000000000000000030003000330d300010"
    ∷ "00110f1000120f1000000020002000250c200010001000120d1000100020002310200020002000220c2000200020002211200020002000250c200020"
    ∷ "00230f200020002000240f200020002000230e200020002000200020002000230f200020002000200020002000210c20002000211120002000230e20"
    ∷ "0010001000100010001000100010001000121010001000100010001000100020002000200020002000250f2000200020002000300030003000300030"
    ∷ "003000000000000000000000000000000020002000200020002000200020000000000000000000200020002000200000000000000000000000000000"
    ∷ "000000000000000111"
    ∷ []

abbrev text0056 : List String
text0056 =
    "records 543 of 543 refusal 0;t0 remove 13 no;t0 lookup 17 no;t0 lookup 14 no;t2 lookup 12 no;t0 insert 17 yes;t0 lookup "
    ∷ "15 no;t0 join 17 no;t0 lookup 12 no;t0 remove 16 no;t3 lookup 15 no;t3 lookup 12 no;t3 join 16 no;t2 join 17 no;t3 join "
    ∷ "12 no;t3 insert 12 yes;t2 insert 17 no;t2 join 16 no;t3 insert 13 yes;t3 insert 16 yes;t3 split 13 yes;t2 remove 16 yes;"
    ∷ "t1 insert 14 yes;t1 lookup 15 no;t2 join 13 no;t0 lookup 15 no;t1 remove 13 yes;t0 lookup 16 no;t0 remove 13 no;t0 join "
    ∷ "13 no;t0 insert 13 yes;t3 join 16 no;t1 insert 15 yes;t1 remove 16 no;t1 remove 13 yes;t2 lookup 16 no;t1 insert 13 yes;"
    ∷ "t3 join 16 no;t3 join 15 no;t1 join 13 yes;t1 split 13 yes;t2 join 15 no;t2 insert 12 no;t1 join 15 no;t3 join 15 no;t3 "
    ∷ "remove 14 yes;t3 join 13 yes;t3 insert 17 no;t3 insert 17 no;t3 lookup 14 no;t3 insert 13 no;t3 split 17 yes;t3 remove 1"
    ∷ "4 no;t2 insert 17 no;t2 insert 13 no;t2 insert 16 yes;t2 lookup 15 yes;t2 join 16 yes;t0 insert 17 no;t1 join 17 no;t1 l"
    ∷ "ookup 14 no;t1 remove 17 yes;t1 split 13 yes;t0 split 16 no;t1 join 17 no;t3 insert 15 no;t1 lookup 16 yes;t1 lookup 15 "
    ∷ "yes;t2 join 13 yes;t1 insert 15 no;t2 join 12 no;t2 remove 16 yes;t2 insert 12 no;t2 insert 17 yes;t2 join 12 no;t2 remo"
    ∷ "ve 15 yes;t2 split 15 yes;t2 remove 14 no;t2 remove 15 no;t2 lookup 12 yes;t2 lookup 17 yes;t1 insert 13 no;t1 insert 16"
    ∷ " yes;t2 remove 14 no;t0 remove 16 yes;0 normal 12 13 17;set 12 13 17;stored 3 used 72;"
    ∷ []

computed0056 : quick_printed (file_of file0056) ≡ text_of text0056
unfolding bytes_of record_at between reaches adding back reached_first reached_next asked put take_out merge within lower upper depth_text row_line
    decimal stations_to stations_text route_line base_line set_line list_refusal check replaceable action_word first_line last_line taken stepped
    started record_step run_refusal count_of file_refusal reached onward followed blocked lacks cleared lost probe replaced beside step ite has insert
    remove union cut below from size least drop_least upper_half lower_half split_key ones_in count_trailing_zeros
computed0056 = refl

pub printed0056 : printed (file_of file0056) ≡ text_of text0056
printed0056 = sym (quick_printed_printed (file_of file0056)) ∙ computed0056
